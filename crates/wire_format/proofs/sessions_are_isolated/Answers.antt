use Rattle.wire_format.proofs.LeftOutLines.{leaving_out_lines, leaving_out_strangers}
use Rattle.wire_format.proofs.sessions_are_isolated.Goals as goal

pub returns : goal.returns
returns c = record { leaving_out = leaving_out_lines; strangers = leaving_out_strangers }
