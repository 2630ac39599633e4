use Rattle.std.proofs.Common.{◌≡◌, ◌<◌, ◌+◌, ◌^◌, ℕ, List, [], ◌++◌, Err, length, length-append, take, Some, refl, sym, ap, ◌∙◌, subst, arith, append-nil}
use Rattle.std.specs.Io.KnownBytes.{Consumes}
use Rattle.std.proofs.KnownBytes.{Consumes-nil, Consumes-trans}
use Rattle.wire_lines.specs.declared.fault.RunFault.TheVariants.{Read, Endless, Memory}
use Rattle.wire_lines.proofs.Asking.{AsksSource-ended, AsksSource-stopped}
use Rattle.wire_lines.proofs.Kept.{err_is}
use Rattle.wire_lines.proofs.Reading.{known_rest, known_end}
use Rattle.wire_lines.proofs.slice.read_by.Goals as goal

pub reads-init : goal.reads-init
reads-init g c = record {
  consumed = subst (Consumes (g.R.Source.left c.args.reader.now) (g.R.Source.left c.args.reader.now)) (sym c.new-bytes.ensures.items)
      (Consumes-nil (g.R.Source.left c.args.reader.now));
  asked = omega arith;
  counted = omega arith;
  gave = omega arith;
  enough = omega arith;
  room = c.requires;
  failed = refl;
}

pub reads-preserved : goal.reads-preserved
reads-preserved g c =
    let so_far = c.reads.invariant in
    let read = c.in-Ok.ensures in
    let bytes = c.reads.bytes.items in
    let chunk : List ℕ = take c.in-Ok.count c.read.new.buffer in
    let more : c.extend_from_slice.new.self.items ≡ bytes ++ chunk = c.in_ok-extend_from_slice.ensures.items in
    let lengths = length-append bytes chunk in
    let all = ap length more in
    let some : 0 < c.in-Ok.count = omega (arith, c.if-count-eq0.false) in
    record {
      consumed = subst (Consumes (g.R.Source.left c.args.reader.now) (g.R.Source.left c.read.new.self)) (sym more)
          (Consumes-trans _ _ _ bytes chunk so_far.consumed read.bytes.0);
      asked = omega (arith, so_far.asked, read.asked);
      counted = omega (arith, so_far.counted, read.asked);
      gave = omega (arith, so_far.gave, read.gave.0 some);
      enough = omega (arith, so_far.enough, read.bound.1, lengths, all, c.if-count-eq0.false);
      room = omega (arith, c.read.auto.buffer, c.reads.invariant.room);
      failed = read.counted ∙ so_far.failed;
    }

pub returns-then-count-eq0-clause-bytes : goal.returns-then-count-eq0-clause-bytes
returns-then-count-eq0-clause-bytes g c = λ input known.
    let read = c.in-Ok.ensures.bytes in
    let bytes = c.reads.bytes.items in
    let chunk : List ℕ = take c.in-Ok.count c.read.new.buffer in
    let (rest, left, is) = known_rest _ _ (bytes ++ chunk) input (Consumes-trans _ _ _ bytes chunk c.reads.invariant.consumed read.0) known in
    let some : 0 < length c.read.new.buffer = omega (arith, c.read.auto.buffer, c.reads.invariant.room) in
    let none : rest ≡ [] = known_end _ rest (read.1 c.if-count-eq0.true some) left in
    let nothing : chunk ≡ [] = ap (λ (n : ℕ). take n c.read.new.buffer) c.if-count-eq0.true in
    (sym (is ∙ (λ i. (bytes ++ nothing i) ++ none i) ∙ append-nil (bytes ++ []) ∙ append-nil bytes), left ∙ ap Some none)

pub returns-clause-endless : goal.returns-clause-endless
returns-clause-endless g c = λ input known endless.
    let so_far = c.reads.invariant in
    let (rest, left, is) = known_rest _ _ c.reads.bytes.items input so_far.consumed known in
    let lengths = ap length is ∙ length-append c.reads.bytes.items rest in
    ((omega (arith, so_far.counted), omega (arith, so_far.gave)), omega (arith, so_far.enough, lengths))

-- the read that failed gave nothing
pub returns-in_default-clause-asked : goal.returns-in_default-clause-asked
returns-in_default-clause-asked g c =
    let so_far = c.reads.invariant in
    let read = c.in_default.ensures in
    AsksSource-stopped (2 ^ 40) _ _ c.reads._reads 1
    (omega (arith, so_far.asked, read.asked)) (omega (arith, so_far.counted, read.asked), omega (arith, so_far.gave, read.gave)) (omega arith) Read
    (Err Read) refl

-- nor did the one that found the end
pub returns-then-count-eq0-clause-asked : goal.returns-then-count-eq0-clause-asked
returns-then-count-eq0-clause-asked g c =
    let so_far = c.reads.invariant in
    let read = c.in-Ok.ensures in
    AsksSource-ended (2 ^ 40) _ _ c.reads._reads _ (omega (arith, so_far.asked, read.asked))
    (omega (arith, so_far.counted, read.asked), omega (arith, so_far.gave, read.gave.1 c.if-count-eq0.true))

pub returns-in_err-extend_from_slice-clause-asked : goal.returns-in_err-extend_from_slice-clause-asked
returns-in_err-extend_from_slice-clause-asked g c =
    let so_far = c.reads.invariant in
    let read = c.in-Ok.ensures in
    let some : 0 < c.in-Ok.count = omega (arith, c.if-count-eq0.false) in
    AsksSource-stopped (2 ^ 40) _ _
    (c.reads._reads + 1) 0
    (omega (arith, so_far.asked, read.asked)) (omega (arith, so_far.counted, read.asked), omega (arith, so_far.gave, read.gave.0 some))
    (omega arith) Memory _ (err_is _ _ c.from_residual.ensures.1)

pub returns-clause-asked : goal.returns-clause-asked
returns-clause-asked g c =
    let so_far = c.reads.invariant in
    AsksSource-stopped (2 ^ 40) _ _ c.reads._reads 0
    (omega (arith, so_far.asked)) (omega (arith, so_far.counted), omega (arith, so_far.gave)) (omega arith) Endless (Err Endless) refl
