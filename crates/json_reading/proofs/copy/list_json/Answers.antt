use Rattle.std.proofs.Common.{◌∙◌, ap, arith}
use Rattle.serde_json.specs.Data.{array}
use Rattle.std.proofs.lemmas.Grind.{common_steps}
use Rattle.json_reading.proofs.CopyLemmas.{all_views, array_view, items_in_map, views_snoc}
use Rattle.json_reading.proofs.copy.list_json.Goals as goal

pub returns : goal.returns
returns c = array_view c.loop-scalar.items ∙ ap array (all_views _ _ c.loop-scalar.scalar-index c.loop-scalar.invariant (omega arith))

pub loop-scalar-preserved : goal.loop-scalar-preserved
loop-scalar-preserved c = grind (arith, common_steps, items_in_map, views_snoc, array_view)
