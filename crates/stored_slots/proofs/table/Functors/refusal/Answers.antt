use Rattle.std.proofs.Common.{arith}
use Rattle.std.proofs.lemmas.Grind.{common_steps}
use Rattle.stored_slots.proofs.table.Functors.refusal.Goals as goal

pub returns-then-len-ge-FUNCTORS-clause-refusal : goal.returns-then-len-ge-FUNCTORS-clause-refusal
returns-then-len-ge-FUNCTORS-clause-refusal g c = grind (arith, common_steps)

pub returns-clause-refusal : goal.returns-clause-refusal
returns-clause-refusal g c = grind (arith, common_steps)

pub returns-clause-room : goal.returns-clause-room
returns-clause-room g c = grind (arith, common_steps)
