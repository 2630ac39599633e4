use Rattle.std.proofs.Common.{◌++◌, sym}
use Rattle.wire_lines.specs.declared.fault.RunFault.TheVariants.{Write}
use Rattle.wire_lines.specs.Feeding.{at}
use Rattle.wire_lines.specs.Run.{reads}
use Rattle.wire_lines.proofs.Asking.{AsksSource-failed}
use Rattle.wire_lines.proofs.Kept.{err_is}
use Rattle.wire_lines.proofs.Reading.{Ends-stopped, not_read}
use Rattle.wire_lines.proofs.Whole.{IsWrittenOut-empty, IsWrittenOut-failed, Ends-flushed, Ends-flush_failed}
use Rattle.server_world.specs.Server.{seen_as}
use Rattle.wire_lines.proofs.stream.Stream.serve_to_end.Goals as goal

pub returns-in_err-flush-clause-ends : goal.returns-in_err-flush-clause-ends
returns-in_err-flush-clause-ends g c = λ input known.
    let old = c.args.self.now in
    let start = at (g.W.Sink.held c.args.writer.now) old.lines (seen_as c.args.server.now) (old.begun ++ input) in
    let served = c.serve_all-ended in
    let flushed = c.in_err-flush.ensures in
    Ends-stopped old.lines.most c.args.max_reads (reads g.R.Source.calls g.R.Source.gave c.args.reader.now)
    (reads g.R.Source.calls g.R.Source.gave served.new.reader) (g.R.Source.left served.new.reader) Write start _ c.from_residual.result not_read
    (Ends-flush_failed start (seen_as served.new.server) (g.W.Sink.held served.new.writer) (g.W.Sink.held c.flush.new.writer)
    served.new.self.lines.output.gathered c.flush.new.self served.new.self.lines.count flushed.emptied flushed.bytes _ _ _ _ _ served.result
    (served.ensures.ends input known))
    (err_is _ _ c.from_residual.ensures.1)

pub returns-clause-ends : goal.returns-clause-ends
returns-clause-ends g c = λ input known.
    let old = c.args.self.now in
    let start = at (g.W.Sink.held c.args.writer.now) old.lines (seen_as c.args.server.now) (old.begun ++ input) in
    let served = c.serve_all-ended in
    let flushed = c.in_ok-flush.ensures in
    Ends-flushed start (seen_as served.new.server) (g.W.Sink.held served.new.writer) (g.W.Sink.held c.flush.new.writer)
    served.new.self.lines.output.gathered c.flush.new.self served.new.self.lines.count flushed.emptied flushed.bytes _ _ _ _ _ served.result
    (served.ensures.ends input known)

pub returns-in_err-flush-clause-written : goal.returns-in_err-flush-clause-written
returns-in_err-flush-clause-written g c = IsWrittenOut-empty c.from_residual.result _ c.in_err-flush.ensures.emptied

pub returns-clause-written : goal.returns-clause-written
returns-clause-written g c = IsWrittenOut-empty c.serve_all-ended.result _ c.in_ok-flush.ensures.emptied

pub returns-then-device_failed-clause-written : goal.returns-then-device_failed-clause-written
returns-then-device_failed-clause-written g c = IsWrittenOut-failed c.serve_all-ended.result _
    (sym c.if-device_failed.ensures) c.serve_all-ended.ensures.written

pub returns-in_err-flush-clause-asked : goal.returns-in_err-flush-clause-asked
returns-in_err-flush-clause-asked g c = AsksSource-failed c.args.max_reads _ _ c.serve_all-ended.result Write _ (err_is _ _ c.from_residual.ensures.1)
    c.serve_all-ended.ensures.asked
