use Rattle.std.proofs.Common.{Some, ap, arith}
use Rattle.std.proofs.lemmas.Result.{IfOk-weaker}
use Rattle.metad_c.proofs.FunctorLemmas.{no_third, takes_a_number}
use Rattle.metad_c.proofs.fixed_functors.FixedFunctorsFunctorTable.answer.Goals as goal

pub clamp_answer-requires : goal.clamp_answer-requires
clamp_answer-requires c = takes_a_number c.args.index c.args.args.now c.in-0.is c.requires

pub returns-in-0-clause-actions : goal.returns-in-0-clause-actions
returns-in-0-clause-actions c = rw c.in-0.is (IfOk-weaker c.clamp_answer.result _ _ (λ answer is. ap Some is.0) c.clamp_answer.ensures)

pub returns-in-0-clause-next : goal.returns-in-0-clause-next
returns-in-0-clause-next c = rw c.in-0.is (IfOk-weaker c.clamp_answer.result _ _ (λ answer is. ap Some is.1) c.clamp_answer.ensures)

pub returns-in-1-clause-actions : goal.returns-in-1-clause-actions
returns-in-1-clause-actions c = rw c.in-1.is (IfOk-weaker c.count_answer.result _ _ (λ answer is. ap Some is.0) c.count_answer.ensures)

pub returns-in-1-clause-next : goal.returns-in-1-clause-next
returns-in-1-clause-next c = rw c.in-1.is (IfOk-weaker c.count_answer.result _ _ (λ answer is. ap Some is.1) c.count_answer.ensures)

pub unreachable-requires : goal.unreachable-requires
unreachable-requires c = no_third c.args.index c.args.args.now (omega arith) (omega arith) c.requires
