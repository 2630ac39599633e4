use Rattle.binding_values.proofs.FuelLemmas.{plain_rule}
use Rattle.binding_values.proofs.ValueLemmas.{same_or_loop}
use Rattle.binding_values.proofs.laws.law_values.Goals as goal

pub returns : goal.returns
returns c = record { rule = plain_rule; same_or_loop = same_or_loop }
