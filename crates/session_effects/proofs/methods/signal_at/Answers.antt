use Rattle.std.proofs.Common.{arith}
use Rattle.std.proofs.lemmas.Grind.{common_steps}
use Rattle.session_effects.proofs.methods.signal_at.Goals as goal

pub returns-then-is_signal : goal.returns-then-is_signal
returns-then-is_signal c = grind (arith, common_steps)

pub returns-else-is_signal : goal.returns-else-is_signal
returns-else-is_signal c = grind (arith, common_steps)
