use Rattle.std.proofs.Common.{refl}
use Rattle.signature_core.proofs.Pieces.{is_name-not_utf8}
use Rattle.signature_core.proofs.reading.name.Goals as goal

pub returns-in_default : goal.returns-in_default
returns-in_default c = rw (is_name-not_utf8 c.args.bytes.now c.in_default.ensures.cases.0) refl
