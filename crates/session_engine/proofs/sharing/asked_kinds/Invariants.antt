use Rattle.std.proofs.Common.{◌≡◌, drop}
use Rattle.session_model.specs.Sharing.{kinds_named}
use Rattle.session_effects.proofs.ForCallers.{behind}
use Rattle.session_engine.proofs.sharing.asked_kinds.Given as goal

abbrev pub invariant-types : goal.invariant-types
invariant-types l = behind l.kinds (kinds_named (drop l.text-index l.types)) ≡ kinds_named l.types
