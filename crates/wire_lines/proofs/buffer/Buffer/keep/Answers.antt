use Rattle.std.proofs.Common.{◌∙◌}
use Rattle.wire_lines.proofs.Sent.{take-append-room}
use Rattle.wire_lines.proofs.buffer.Buffer.keep.Goals as goal

pub returns : goal.returns
returns c = c.put.ensures ∙ take-append-room _ _ _ _ _ c.room.ensures c.min-kept.ensures
