use Rattle.std.proofs.Common.{rules}
use Rattle.command_line.proofs.clamp.clamp_answer.Goals as goal

pub returns : goal.returns
returns c = (search rules, search rules)
