use Rattle.std.proofs.Common.{◌∙◌, inl, sym}
use Rattle.binding_values.proofs.MapLemmas.{there}
use Rattle.binding_values.proofs.run.find.Goals as goal

pub returns-then-is_some-clause-settled : goal.returns-then-is_some-clause-settled
returns-then-is_some-clause-settled c = inl (there _ c.at.result _ c.at.ensures (sym c.is_some.ensures ∙ c.if-is_some.true))
