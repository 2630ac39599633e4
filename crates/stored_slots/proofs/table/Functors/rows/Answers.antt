use Rattle.std.proofs.Common.{arith, subst, sym}
use Rattle.std.proofs.lemmas.Grind.{common_steps}
use Rattle.std.specs.List.{All}
use Rattle.stored_slots.proofs.TableLemmas.{all_parts}
use Rattle.stored_slots.specs.Functors.{IsFunctor}
use Rattle.stored_slots.proofs.table.Functors.rows.Goals as goal

pub loop-one-preserved : goal.loop-one-preserved
loop-one-preserved g c = grind (arith, common_steps)

pub returns-clause-rows : goal.returns-clause-rows
returns-clause-rows g c = grind (arith, common_steps)

pub returns-clause-few : goal.returns-clause-few
returns-clause-few g c = grind (arith, common_steps)

pub returns-clause-each : goal.returns-clause-each
returns-clause-each g c =
    subst (All IsFunctor) (sym c.loop-one.invariant) (all_parts (λ stored. stored.functor) IsFunctor _ (λ stored. stored.is_functor))
