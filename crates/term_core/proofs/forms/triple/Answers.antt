use Rattle.std.proofs.Common.{arith}
use Rattle.std.proofs.lemmas.Grind.{common_steps}
use Rattle.serde_json.proofs.Views.{items_len-items_view}
use Rattle.term_core.proofs.forms.triple.Goals as goal

pub returns-in_default-clause-none : goal.returns-in_default-clause-none
returns-in_default-clause-none c = λ a b d is. let count = items_len-items_view c.in_ok-as_array.field-0.now.items in grind (arith, common_steps, is, count)
