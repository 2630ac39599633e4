use Rattle.std.proofs.Common.{◌++◌, length-append, arith}
use Rattle.std.proofs.KnownBytes.{Consumes-trans}
use Rattle.std.proofs.lemmas.Grind.{common_steps}
use Rattle.command_line.proofs.class_file.read_at_most.Goals as goal

pub returns-in-Err-clause-taken : goal.returns-in-Err-clause-taken
returns-in-Err-clause-taken g c =
    let (more, few, consumed) = c.in-Err.ensures.taken in
    let so_far = c.chunks.bytes.items in
    let together = length-append so_far more in
    (so_far ++ more, omega (arith, c.chunks.bytes.ok, c.chunks-test.true), Consumes-trans _ _ _ so_far more c.chunks.invariant.consumed consumed)

pub returns-in-Ok-eq0-clause-bytes : goal.returns-in-Ok-eq0-clause-bytes
returns-in-Ok-eq0-clause-bytes g c = grind (arith, common_steps)

pub chunks-preserved : goal.chunks-preserved
chunks-preserved g c = grind (arith, common_steps)

pub returns-clause-bytes : goal.returns-clause-bytes
returns-clause-bytes g c = grind (arith, common_steps)
