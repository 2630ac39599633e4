use Rattle.std.proofs.Common.{◌≡◌, drop}
use Rattle.serde_json.specs.View.{items_view}
use Rattle.term_core.specs.Effects.{terms_in}
use Rattle.term_core.proofs.Concatenated.{concatenated}
use Rattle.term_core.proofs.effects.expressions.Given as goal

abbrev pub invariant-loop-json : goal.invariant-loop-json
invariant-loop-json l = concatenated l.found.items (terms_in l.scope (items_view (drop l.json-index l.list))) ≡ terms_in l.scope (items_view l.list)
