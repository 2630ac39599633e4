use Rattle.std.proofs.Common.{arith}
use Rattle.std.proofs.lemmas.Grind.{common_steps}
use Rattle.dispatch.proofs.functor_table.FunctorsFunctorTable.answer.Goals as goal

pub call-requires : goal.call-requires
call-requires g c = grind (arith, common_steps)

pub returns : goal.returns
returns g c = grind (arith, common_steps)
