use Rattle.std.proofs.Common.{◌≡◌, drop, map}
use Rattle.serde_json.specs.View.{view}
use Rattle.wire_commands.specs.Sharing.{texts_of}
use Rattle.wire_commands.proofs.HeldLemmas.{in_front}
use Rattle.wire_commands.proofs.sharing.texts_of.Given as goal

abbrev pub invariant-elements : goal.invariant-elements
invariant-elements l = in_front l.texts (texts_of (map view (drop l.element-index l.elements))) ≡ texts_of (map view l.elements)
