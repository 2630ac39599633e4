use Rattle.std.proofs.Common.{arith}
use Rattle.std.proofs.lemmas.Grind.{common_steps}
use Rattle.wire_lines.proofs.Sent.{SentFront-emptied, SentAll-failed, SentAll-passed}
use Rattle.wire_lines.proofs.buffer.Buffer.send_past.Goals as goal

pub returns-in_err-flush-clause-bytes : goal.returns-in_err-flush-clause-bytes
returns-in_err-flush-clause-bytes g c =
    let flushed = c.in_err-flush.ensures in
    SentAll-failed (record { received = g.W.Sink.held c.args.writer.now; gathered = c.args.self.now })
    (record { received = g.W.Sink.held c.flush.new.writer; gathered = c.flush.new.self }) _ c.args.text.now c.from_residual.ensures.0
    (SentFront-emptied (g.W.Sink.held c.args.writer.now) (g.W.Sink.held c.flush.new.writer) c.args.self.now _ c.args.text.now flushed.emptied flushed.bytes)

pub returns-clause-bytes : goal.returns-clause-bytes
returns-clause-bytes g c =
    let flushed = c.in_ok-flush.ensures in
    SentAll-passed _ _ _ _ _ _ _ flushed.emptied flushed.bytes c.write_all.ensures.bytes

pub returns-clause-counted : goal.returns-clause-counted
returns-clause-counted g c = grind (arith, common_steps)
