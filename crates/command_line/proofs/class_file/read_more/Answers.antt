use Rattle.std.proofs.Common.{◌≤◌, ℕ, List, [], length, take, arith}
use Rattle.std.proofs.KnownBytes.{Consumes-kept, Consumes-nil}
use Rattle.std.proofs.lemmas.Grind.{common_steps}
use Rattle.command_line.proofs.class_file.read_more.Goals as goal

-- a front is no longer than what was asked of it
front_few : (n most : ℕ) (bytes : List ℕ) → n ≤ most → length (take n bytes) ≤ most
front_few n most bytes few = grind (arith, common_steps)

pub returns-in_err-count-clause-taken : goal.returns-in_err-count-clause-taken
returns-in_err-count-clause-taken g c = ([], omega arith, Consumes-kept _ _ _ [] (Consumes-nil _) c.in_err-count.ensures.bytes)

pub returns-in_err-extend_from_slice-clause-taken : goal.returns-in_err-extend_from_slice-clause-taken
returns-in_err-extend_from_slice-clause-taken g c =
    let came = take c.in_ok-count.count c.read.new.buffer in
    (came, front_few _ _ c.read.new.buffer (grind (arith, common_steps, c.in_ok-count.ensures.bound)), c.in_ok-count.ensures.bytes.0)

pub returns-clause-end : goal.returns-clause-end
returns-clause-end g c none = c.in_ok-count.ensures.bytes.1 none (grind (arith, common_steps))

pub returns-clause-taken : goal.returns-clause-taken
returns-clause-taken g c =
    let came = take c.in_ok-count.count c.read.new.buffer in
    (came, front_few _ _ c.read.new.buffer (grind (arith, common_steps, c.in_ok-count.ensures.bound)), c.in_ok-count.ensures.bytes.0)

pub slice_bounds-chunk-end-2 : goal.slice_bounds-chunk-end-2
slice_bounds-chunk-end-2 g c = grind (arith, common_steps)

pub slice_bounds-extend_from_slice-end : goal.slice_bounds-extend_from_slice-end
slice_bounds-extend_from_slice-end g c = grind (arith, common_steps)

pub returns-clause-more : goal.returns-clause-more
returns-clause-more g c = grind (arith, common_steps)

pub returns-clause-few : goal.returns-clause-few
returns-clause-few g c = grind (arith, common_steps)

pub returns-clause-came : goal.returns-clause-came
returns-clause-came g c = grind (arith, common_steps)
