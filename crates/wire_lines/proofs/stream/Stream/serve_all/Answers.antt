use Rattle.std.proofs.Common.{Result, Err, ◌≡◌, ◌<◌, ◌+◌, ◌∙◌, ℕ, List, [], ◌++◌, length, take, inr, arith, append-nil, length-append, refl, sym, ap, subst}
use Rattle.std.specs.Io.KnownBytes.{Consumes}
use Rattle.std.proofs.KnownBytes.{Consumes-nil, Consumes-kept, Consumes-trans}
use Rattle.wire_lines.specs.declared.fault.RunFault.{RunFault}
use Rattle.wire_lines.specs.declared.fault.RunFault.TheVariants.{Read, Write, Endless}
use Rattle.wire_lines.specs.Sending.{out}
use Rattle.wire_lines.specs.Stream.{Fed, Finishes, SinkFails, Stops}
use Rattle.wire_lines.specs.Feeding.{at}
use Rattle.wire_lines.specs.Run.{reads}
use Rattle.wire_lines.proofs.Answering.{Later-trans}
use Rattle.wire_lines.proofs.Asking.{AsksSource-ended, AsksSource-stopped}
use Rattle.wire_lines.proofs.Feeding.{and_then, Fed-later, Fed-refl, Cut-after, Cut-later, Finishes-later, Stops-cut, Stops-anywhere}
use Rattle.wire_lines.proofs.Feeding.{SinkFails-unread}
use Rattle.wire_lines.proofs.Kept.{err_is, point}
use Rattle.wire_lines.proofs.Reading.{known_rest, known_end, Fed-flushed, Cut-flushed, Cut-here, Cut-known, Stops-known, Fed-read, Stops-read, Ends-stopped}
use Rattle.wire_lines.proofs.Reading.{Ends-finished, not_read, counted_read}
use Rattle.server_world.specs.Server.{seen_as}
use Rattle.wire_lines.proofs.stream.Stream.serve_all.Goals as goal

pub returns-in_err-flush-clause-ends : goal.returns-in_err-flush-clause-ends
returns-in_err-flush-clause-ends g c = λ input known.
    let start = at (g.W.Sink.held c.args.writer.now) c.args.self.now.lines (seen_as c.args.server.now) c.args.self.now.begun in
    let (bytes, so_far) = c.reads.invariant in
    let (rest, left, is) = known_rest _ _ bytes input so_far.consumed known in
    let end = point (seen_as c.reads.server) (out (g.W.Sink.held c.flush.new.writer) c.flush.new.self) c.reads.self.lines.count [] in
    Ends-stopped c.args.self.now.lines.most c.args.max_reads (reads g.R.Source.calls g.R.Source.gave c.args.reader.now)
    (reads g.R.Source.calls g.R.Source.gave c.reads.reader) (g.R.Source.left c.reads.reader) Write
    (and_then start input) end c.from_residual.result not_read
    (Cut-known start end bytes rest input is Write
    (Cut-flushed (and_then start bytes) (seen_as c.reads.server) (g.W.Sink.held c.reads.writer) (g.W.Sink.held c.flush.new.writer)
    c.reads.self.lines.output.gathered c.flush.new.self c.reads.self.begun [] rest _ so_far.fed c.in_err-flush.ensures.emptied c.in_err-flush.ensures.bytes))
    (err_is _ _ c.from_residual.ensures.1)

pub returns-in_default-clause-ends : goal.returns-in_default-clause-ends
returns-in_default-clause-ends g c = λ input known.
    let start = at (g.W.Sink.held c.args.writer.now) c.args.self.now.lines (seen_as c.args.server.now) c.args.self.now.begun in
    let (bytes, so_far) = c.reads.invariant in
    let next = point (seen_as c.reads.server) (out (g.W.Sink.held c.flush.new.writer) c.flush.new.self) c.reads.self.lines.count c.reads.self.begun in
    let fed : Fed (and_then start bytes) next = Fed-flushed (and_then start bytes) (seen_as c.reads.server) (g.W.Sink.held c.reads.writer) _
    c.reads.self.lines.output.gathered c.flush.new.self c.reads.self.begun _ so_far.fed c.in_ok-flush.ensures.emptied c.in_ok-flush.ensures.bytes in
    let end = point (seen_as c.reads.server) (out (g.W.Sink.held c.flush.new.writer) c.flush.new.self) c.reads.self.lines.count [] in
    let kept = Consumes-kept _ _ _ bytes so_far.consumed c.in_default.ensures.bytes in
    let (rest, left, is) = known_rest _ _ bytes input kept known in (
      Cut-known start end bytes rest input is Read (Cut-after Read (and_then start bytes) next end rest fed (Cut-here Read next [] rest tt)),
      counted_read start next bytes rest input (g.R.Source.left c.read.new.self) [] is left fed c.reads.self.no_end,
    )

pub returns-then-count-eq0-clause-ends : goal.returns-then-count-eq0-clause-ends
returns-then-count-eq0-clause-ends g c = λ input known.
    let start = at (g.W.Sink.held c.args.writer.now) c.args.self.now.lines (seen_as c.args.server.now) c.args.self.now.begun in
    let (bytes, so_far) = c.reads.invariant in
    let next = point (seen_as c.reads.server) (out (g.W.Sink.held c.flush.new.writer) c.flush.new.self) c.reads.self.lines.count c.reads.self.begun in
    let fed : Fed (and_then start bytes) next = Fed-flushed (and_then start bytes) (seen_as c.reads.server) (g.W.Sink.held c.reads.writer) _
    c.reads.self.lines.output.gathered c.flush.new.self c.reads.self.begun _ so_far.fed c.in_ok-flush.ensures.emptied c.in_ok-flush.ensures.bytes in
    let read = c.in-Ok.ensures.bytes in
    let none : take c.in-Ok.count c.read.new.buffer ≡ [] = ap (λ n. take n c.read.new.buffer) c.if-count-eq0.true in
    let consumed : Consumes (g.R.Source.left c.args.reader.now) (g.R.Source.left c.read.new.self) (bytes ++ take c.in-Ok.count c.read.new.buffer) =
    Consumes-trans _ _ _ bytes (take c.in-Ok.count c.read.new.buffer) so_far.consumed read.0 in
    let (rest, left, is) = known_rest _ _ _ input consumed known in
    let nothing = known_end _ rest (read.1 c.if-count-eq0.true (omega arith)) left in
    let whole : bytes ≡ input = sym (is ∙ ap (λ l. (bytes ++ take c.in-Ok.count c.read.new.buffer) ++ l) nothing
    ∙ append-nil (bytes ++ take c.in-Ok.count c.read.new.buffer) ∙ ap (λ l. bytes ++ l) none ∙ append-nil bytes) in
    let end = at (g.W.Sink.held c.finish.new.writer) c.finish.new.self.lines (seen_as c.finish.new.server) [] in
    Ends-finished c.args.self.now.lines.most c.args.max_reads (reads g.R.Source.calls g.R.Source.gave c.args.reader.now)
    (reads g.R.Source.calls g.R.Source.gave c.read.new.self) (g.R.Source.left c.read.new.self) (and_then start input) next end c.finish.result _ _
    c.finish.ensures.failed (subst (λ (b : List ℕ). Fed (and_then start b) next) whole fed)
    (subst (λ (most : ℕ). Finishes most next end c.finish.result) so_far.most c.finish.ensures.done)

pub returns-in_err-flush-clause-later : goal.returns-in_err-flush-clause-later
returns-in_err-flush-clause-later g c = Fed-later _ _ c.reads.invariant.1.fed

pub returns-in_default-clause-later : goal.returns-in_default-clause-later
returns-in_default-clause-later g c = Fed-later _ _ c.reads.invariant.1.fed

pub returns-then-count-eq0-clause-later : goal.returns-then-count-eq0-clause-later
returns-then-count-eq0-clause-later g c =
    Later-trans (seen_as c.args.server.now) (seen_as c.reads.server) (seen_as c.finish.new.server) (Fed-later _ _ c.reads.invariant.1.fed)
    (Finishes-later _ _ _ _ c.finish.ensures.done)

pub returns-clause-later : goal.returns-clause-later
returns-clause-later g c = Fed-later _ _ c.reads.invariant.1.fed

pub returns-in_err-feed-clause-later : goal.returns-in_err-feed-clause-later
returns-in_err-feed-clause-later g c =
    Later-trans (seen_as c.args.server.now) (seen_as c.reads.server) (seen_as c.feed.new.server) (Fed-later _ _ c.reads.invariant.1.fed)
    (Cut-later _ _ _ [] (Stops-cut _ _ _ _ [] (c.in_err-feed.ensures.fed [])))

pub returns-in_err-feed-clause-ends : goal.returns-in_err-feed-clause-ends
returns-in_err-feed-clause-ends g c = λ input known.
    let start = at (g.W.Sink.held c.args.writer.now) c.args.self.now.lines (seen_as c.args.server.now) c.args.self.now.begun in
    let (bytes, so_far) = c.reads.invariant in
    let next = point (seen_as c.reads.server) (out (g.W.Sink.held c.flush.new.writer) c.flush.new.self) c.reads.self.lines.count c.reads.self.begun in
    let fed : Fed (and_then start bytes) next = Fed-flushed (and_then start bytes) (seen_as c.reads.server) (g.W.Sink.held c.reads.writer) _
    c.reads.self.lines.output.gathered c.flush.new.self c.reads.self.begun _ so_far.fed c.in_ok-flush.ensures.emptied c.in_ok-flush.ensures.bytes in
    let chunk = take c.in-Ok.count c.read.new.buffer in
    let consumed : Consumes (g.R.Source.left c.args.reader.now) (g.R.Source.left c.read.new.self) (bytes ++ chunk) =
    Consumes-trans _ _ _ bytes chunk so_far.consumed c.in-Ok.ensures.bytes.0 in
    let (rest, left, is) = known_rest _ _ _ input consumed known in
    let after = at (g.W.Sink.held c.feed.new.writer) c.feed.new.self.lines (seen_as c.feed.new.server) c.feed.new.self.begun in
    let end = at (g.W.Sink.held c.feed.new.writer) c.feed.new.self.lines (seen_as c.feed.new.server) [] in
    let fault = c.in_err-feed.field-0.0 in
    let most = c.args.self.now.lines.most in
    let stops = Stops-read most fault start next after bytes chunk rest fed
    (subst (λ (most : ℕ). Stops most fault (and_then next chunk) after rest) so_far.most (c.in_err-feed.ensures.fed rest)) in
    Ends-stopped most c.args.max_reads (reads g.R.Source.calls g.R.Source.gave c.args.reader.now)
    (reads g.R.Source.calls g.R.Source.gave c.read.new.self) (g.R.Source.left c.read.new.self) fault
    (and_then start input) end c.from_residual-in_err-feed.result (SinkFails-unread (Unit {0}) _ _ fault c.in_err-feed.ensures.failed)
    (Stops-known start end (bytes ++ chunk) rest input is most fault (Stops-anywhere most fault (and_then start (bytes ++ chunk)) after [] rest stops))
    (err_is _ _ c.from_residual-in_err-feed.ensures.1)

pub reads-preserved : goal.reads-preserved
reads-preserved g c =
    let start = at (g.W.Sink.held c.args.writer.now) c.args.self.now.lines (seen_as c.args.server.now) c.args.self.now.begun in
    let (bytes, so_far) = c.reads.invariant in
    let next = point (seen_as c.reads.server) (out (g.W.Sink.held c.flush.new.writer) c.flush.new.self) c.reads.self.lines.count c.reads.self.begun in
    let fed : Fed (and_then start bytes) next = Fed-flushed (and_then start bytes) (seen_as c.reads.server) (g.W.Sink.held c.reads.writer) _
    c.reads.self.lines.output.gathered c.flush.new.self c.reads.self.begun _ so_far.fed c.in_ok-flush.ensures.emptied c.in_ok-flush.ensures.bytes in
    let chunk = take c.in-Ok.count c.read.new.buffer in
    let after = at (g.W.Sink.held c.feed.new.writer) c.feed.new.self.lines (seen_as c.feed.new.server) c.feed.new.self.begun in
    let fed_more = c.in_ok-feed.ensures in
    let lengths = length-append bytes chunk in
    let some : 0 < c.in-Ok.count = omega arith in (
      bytes ++ chunk,
      record {
        consumed = Consumes-trans _ _ _ bytes chunk so_far.consumed c.in-Ok.ensures.bytes.0;
        asked = omega (arith, so_far.asked, c.in-Ok.ensures.asked);
        counted = omega (arith, so_far.counted, c.in-Ok.ensures.asked);
        gave = omega (arith, so_far.gave, c.in-Ok.ensures.gave.0 some);
        enough = omega (arith, so_far.enough, c.in-Ok.ensures.bound.1);
        fed = Fed-read start next after bytes chunk fed fed_more.fed;
        most = fed_more.most ∙ so_far.most;
        read_fails = c.in-Ok.ensures.counted ∙ so_far.read_fails;
        write_fails = fed_more.failed ∙ c.in_ok-flush.ensures.counted ∙ so_far.write_fails;
      },
    )

pub returns-clause-ends : goal.returns-clause-ends
returns-clause-ends g c = λ input known.
    let start = at (g.W.Sink.held c.args.writer.now) c.args.self.now.lines (seen_as c.args.server.now) c.args.self.now.begun in
    let (bytes, so_far) = c.reads.invariant in
    let (rest, left, is) = known_rest _ _ bytes input so_far.consumed known in
    let here = at (g.W.Sink.held c.reads.writer) c.reads.self.lines (seen_as c.reads.server) c.reads.self.begun in
    let end = at (g.W.Sink.held c.reads.writer) c.reads.self.lines (seen_as c.reads.server) [] in
    let count = length-append c.args.self.now.begun input in
    let all = ap length is in
    let parts = length-append bytes rest in (
      Cut-known start end bytes rest input is Endless (Cut-after Endless (and_then start bytes) here end rest so_far.fed (Cut-here Endless here [] rest tt)),
      inr (
        ((omega (arith, so_far.counted), omega (arith, so_far.gave)), omega (arith, so_far.enough, count, all, parts)),
        counted_read start here bytes rest input (g.R.Source.left c.reads.reader) [] is left so_far.fed c.reads.self.no_end,
      ),
    )

pub reads-init : goal.reads-init
reads-init g c =
    let old = c.args.self.now in
    let here = λ (begun : List ℕ). at (g.W.Sink.held c.args.writer.now) old.lines (seen_as c.args.server.now) begun in (
      [],
      record {
        consumed = Consumes-nil (g.R.Source.left c.args.reader.now);
        asked = omega arith;
        counted = omega arith;
        gave = omega arith;
        enough = omega arith;
        fed = subst (λ (begun : List ℕ). Fed (here begun) (here old.begun)) (sym (append-nil old.begun)) (Fed-refl (here old.begun));
        most = refl;
        read_fails = refl;
        write_fails = refl;
      },
    )

pub returns-in_err-flush-clause-written : goal.returns-in_err-flush-clause-written
returns-in_err-flush-clause-written g c = λ reads. c.in_err-flush.ensures.emptied

pub returns-in_default-clause-written : goal.returns-in_default-clause-written
returns-in_default-clause-written g c = λ reads. c.in_ok-flush.ensures.emptied

pub returns-then-count-eq0-clause-written : goal.returns-then-count-eq0-clause-written
returns-then-count-eq0-clause-written g c =
    λ reads. absurd (subst (λ (r : Result (Unit {0}) RunFault). SinkFails (g.W.Sink.failures c.flush.new.writer) (g.W.Sink.failures c.finish.new.writer) r)
    reads c.finish.ensures.failed)

pub returns-in_err-feed-clause-written : goal.returns-in_err-feed-clause-written
returns-in_err-feed-clause-written g c = λ reads.
    let both = sym (err_is _ _ c.from_residual-in_err-feed.ensures.1) ∙ reads in
    let read : c.in_err-feed.field-0.0 ≡ Read = cc in
    absurd (SinkFails-unread (Unit {0}) _ _ c.in_err-feed.field-0.0 c.in_err-feed.ensures.failed read)

pub returns-clause-written : goal.returns-clause-written
returns-clause-written g c = λ reads. absurd (cc reads)

pub returns-in_err-flush-clause-within : goal.returns-in_err-flush-clause-within
returns-in_err-flush-clause-within g c = omega (arith, c.reads.self.lines.within, c.reads.invariant.1.most)

pub returns-in_default-clause-within : goal.returns-in_default-clause-within
returns-in_default-clause-within g c = omega (arith, c.reads.self.lines.within, c.reads.invariant.1.most)

pub returns-then-count-eq0-clause-within : goal.returns-then-count-eq0-clause-within
returns-then-count-eq0-clause-within g c =
    omega (arith, c.finish.new.self.lines.within, c.finish.ensures.most, c.reads.invariant.1.most)

pub returns-in_err-feed-clause-within : goal.returns-in_err-feed-clause-within
returns-in_err-feed-clause-within g c = omega (arith, c.feed.new.self.lines.within, c.in_err-feed.ensures.most, c.reads.invariant.1.most)

pub returns-clause-within : goal.returns-clause-within
returns-clause-within g c = omega (arith, c.reads.self.lines.within, c.reads.invariant.1.most)

pub returns-in_err-flush-clause-asked : goal.returns-in_err-flush-clause-asked
returns-in_err-flush-clause-asked g c =
    let so_far = c.reads.invariant.1 in
    AsksSource-stopped c.args.max_reads _ _ c.reads._reads 0
    (omega (arith, so_far.asked)) (omega (arith, so_far.counted), omega (arith, so_far.gave)) (omega arith) Write _ (err_is _ _ c.from_residual.ensures.1)

-- the read that failed gave nothing
pub returns-in_default-clause-asked : goal.returns-in_default-clause-asked
returns-in_default-clause-asked g c =
    let so_far = c.reads.invariant.1 in
    let read = c.in_default.ensures in
    AsksSource-stopped c.args.max_reads _ _ c.reads._reads 1 (omega (arith, so_far.asked, read.asked))
    (omega (arith, so_far.counted, read.asked), omega (arith, so_far.gave, read.gave)) (omega arith) Read (Err Read) refl

-- nor did the one that found the end
pub returns-then-count-eq0-clause-asked : goal.returns-then-count-eq0-clause-asked
returns-then-count-eq0-clause-asked g c =
    let so_far = c.reads.invariant.1 in
    let read = c.in-Ok.ensures in
    AsksSource-ended c.args.max_reads _ _ c.reads._reads _ (omega (arith, so_far.asked, read.asked))
    (omega (arith, so_far.counted, read.asked), omega (arith, so_far.gave, read.gave.1 c.if-count-eq0.true))

pub returns-in_err-feed-clause-asked : goal.returns-in_err-feed-clause-asked
returns-in_err-feed-clause-asked g c =
    let so_far = c.reads.invariant.1 in
    let read = c.in-Ok.ensures in
    let some : 0 < c.in-Ok.count = omega arith in
    AsksSource-stopped c.args.max_reads _ _ (c.reads._reads + 1) 0 (omega (arith, so_far.asked, read.asked))
    (omega (arith, so_far.counted, read.asked), omega (arith, so_far.gave, read.gave.0 some))
    (omega arith) c.in_err-feed.field-0.0 _ (err_is _ _ c.from_residual-in_err-feed.ensures.1)

pub returns-clause-asked : goal.returns-clause-asked
returns-clause-asked g c =
    let so_far = c.reads.invariant.1 in
    AsksSource-stopped c.args.max_reads _ _ c.reads._reads 0
    (omega (arith, so_far.asked)) (omega (arith, so_far.counted), omega (arith, so_far.gave)) (omega arith) Endless (Err Endless) refl
