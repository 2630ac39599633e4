use Rattle.std.proofs.Common.{◌∙◌, [], subst, arith}
use denote.Ref.{Bor}
use Rattle.std.specs.Prelude.{List, ℕ}
use Rattle.std.proofs.lemmas.Grind.{common_steps}
use Rattle.wire_lines.specs.Sending.{out, SentFront}
use Rattle.wire_lines.proofs.Sent.{SentAll-failed, Sent-next, SentFront-next}
use Rattle.wire_lines.proofs.output.Output.say_each.Goals as goal

pub returns-in_err-send-clause-said : goal.returns-in_err-send-clause-said
returns-in_err-send-clause-said g c =
    let old = out (g.W.Sink.held c.args.writer.now) c.args.self.now.gathered in
    let mid = out (g.W.Sink.held c.loop-part.writer) c.loop-part.self.gathered in
    let new = out (g.W.Sink.held c.send.new.writer) c.send.new.self in
    SentAll-failed old new _ _ c.from_residual.ensures.0
    (subst (SentFront old new) c.in_order-parts.ensures
    (SentFront-next (λ (part : Bor (List ℕ)). part.now) c.in_order-parts.result c.loop-part.part-index old mid new
    (record { ref_ptr = (0, 0); now = [] }) c.as_bytes.result.now
    (omega arith) c.as_bytes.ensures.value c.loop-part.invariant.said c.in_err-send.ensures.bytes))

pub loop-part-preserved : goal.loop-part-preserved
loop-part-preserved g c =
    let old = out (g.W.Sink.held c.args.writer.now) c.args.self.now.gathered in
    let mid = out (g.W.Sink.held c.loop-part.writer) c.loop-part.self.gathered in
    let new = out (g.W.Sink.held c.send.new.writer) c.send.new.self in
    record {
      said = Sent-next (λ (part : Bor (List ℕ)). part.now) c.in_order-parts.result c.loop-part.part-index old mid new
          (record { ref_ptr = (0, 0); now = [] }) c.as_bytes.result.now
          (omega arith) c.as_bytes.ensures.value c.loop-part.invariant.said c.in_ok-send.ensures.bytes;
      counted = c.in_ok-send.ensures.counted ∙ c.loop-part.invariant.counted;
    }

pub returns-clause-said : goal.returns-clause-said
returns-clause-said g c = grind (arith, common_steps)
