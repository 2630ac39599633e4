use Rattle.std.proofs.Common.{◌∙◌, ℕ, List, arith, subst}
use Rattle.std.proofs.lemmas.List.{take_all}
use Rattle.std.specs.List.{flat_map}
use Rattle.wire_lines.specs.Sending.{Sent, out}
use Rattle.wire_lines.specs.Slicing.{ended}
use Rattle.wire_lines.specs.Taking.{numbered}
use Rattle.wire_lines.proofs.FirstLine.{line-numbered}
use Rattle.wire_lines.proofs.Sent.{SentAll-then, SentAll-failed, SentFront-next, Sent-next}
use Rattle.wire_lines.proofs.slice.Slicing.write.Goals as goal

pub returns-in_err-send_line-clause-sent : goal.returns-in_err-send_line-clause-sent
returns-in_err-send_line-clause-sent g c =
    let old = out (g.W.Sink.held c.args.writer.now) c.args.buffer.now in
    let mid = out (g.W.Sink.held c.loop-number.writer) c.loop-number.buffer in
    let new = out (g.W.Sink.held c.send_line.new.writer) c.send_line.new.buffer in
    SentAll-failed old new _ _ c.from_residual.ensures.0
    (SentFront-next (numbered c.args.input.now c.args.self.now.starts.items) c.args.numbers.now c.loop-number.number-index old mid new 0
    (ended c.first_line.result.0.now) (omega arith)
    (line-numbered c.args.input.now c.args.self.now.starts.items c.index.result.now _ c.first_line.result.0.now
    c.first_line.ensures.line c.index.ensures (c.requires.numbers c.loop-number.number-index 0 (omega arith)))
    c.loop-number.invariant.sent c.in_err-send_line.ensures.sent)

pub loop-number-preserved : goal.loop-number-preserved
loop-number-preserved g c =
    let old = out (g.W.Sink.held c.args.writer.now) c.args.buffer.now in
    let mid = out (g.W.Sink.held c.loop-number.writer) c.loop-number.buffer in
    let new = out (g.W.Sink.held c.send_line.new.writer) c.send_line.new.buffer in
    record {
      sent = Sent-next (numbered c.args.input.now c.args.self.now.starts.items) c.args.numbers.now c.loop-number.number-index old mid new 0
          (ended c.first_line.result.0.now) (omega arith)
          (line-numbered c.args.input.now c.args.self.now.starts.items c.index.result.now _ c.first_line.result.0.now
          c.first_line.ensures.line c.index.ensures (c.requires.numbers c.loop-number.number-index 0 (omega arith)))
          c.loop-number.invariant.sent c.in_ok-send_line.ensures.sent;
      counted = c.in_ok-send_line.ensures.counted ∙ c.loop-number.invariant.counted;
    }

pub returns-clause-sent : goal.returns-clause-sent
returns-clause-sent g c =
    let old = out (g.W.Sink.held c.args.writer.now) c.args.buffer.now in
    let text = flat_map (numbered c.args.input.now c.args.self.now.starts.items) in
    let all = take_all c.loop-number.number-index c.args.numbers.now c.loop-number-test.false in
    let sent : Sent old (out (g.W.Sink.held c.loop-number.writer) c.loop-number.buffer) (text c.args.numbers.now) =
    subst (λ (numbers : List ℕ). Sent old (out (g.W.Sink.held c.loop-number.writer) c.loop-number.buffer) (text numbers)) all c.loop-number.invariant.sent in
    SentAll-then old _ _ c.loop-number.buffer c.flush.new.self (text c.args.numbers.now) c.flush.result c.flush.ensures.emptied sent c.flush.ensures.bytes
