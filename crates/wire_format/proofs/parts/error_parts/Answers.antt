use Rattle.std.proofs.Common.{sym}
use Rattle.wire_format.proofs.LineTexts.{text_of_error}
use Rattle.wire_format.proofs.parts.error_parts.Goals as goal

pub returns : goal.returns
returns c = rw c.text.ensures (sym (text_of_error c.args.code c.args.session.now c.requires))
