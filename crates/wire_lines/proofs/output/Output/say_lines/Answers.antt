use Rattle.std.proofs.Common.{◌≡◌, ◌∙◌, Err, ap, sym, arith}
use Rattle.wire_format.specs.Text.{text_of_line}
use Rattle.std.proofs.lemmas.Grind.{common_steps}
use Rattle.wire_format.specs.Parts.{has_parts}
use Rattle.wire_lines.specs.declared.fault.RunFault.TheVariants.{Memory}
use Rattle.wire_lines.specs.Sending.{out}
use Rattle.wire_lines.proofs.Kept.{err_is}
use Rattle.wire_lines.proofs.Stuck.{IsStuckBy-lines}
use Rattle.wire_lines.proofs.Sent.{SentAll-failed, Sent-next, SentFront-next}
use Rattle.wire_lines.proofs.output.Output.say_lines.Goals as goal

pub returns-in_err-say_line-clause-said : goal.returns-in_err-say_line-clause-said
returns-in_err-say_line-clause-said g c =
    let old = out (g.W.Sink.held c.args.writer.now) c.args.self.now.gathered in
    let mid = out (g.W.Sink.held c.loop-line.writer) c.loop-line.self.gathered in
    let new = out (g.W.Sink.held c.say_line.new.writer) c.say_line.new.self.gathered in
    SentAll-failed old new _ _ c.from_residual.ensures.0
    (SentFront-next (text_of_line c.args.session.now) c.args.lines.now c.loop-line.line-index old mid new c.line-item.result _ (omega arith)
    (ap (text_of_line c.args.session.now) c.line-item.is) c.loop-line.invariant.said c.in_err-say_line.ensures.said)

pub loop-line-preserved : goal.loop-line-preserved
loop-line-preserved g c =
    let old = out (g.W.Sink.held c.args.writer.now) c.args.self.now.gathered in
    let mid = out (g.W.Sink.held c.loop-line.writer) c.loop-line.self.gathered in
    let new = out (g.W.Sink.held c.say_line.new.writer) c.say_line.new.self.gathered in
    record {
      said = Sent-next (text_of_line c.args.session.now) c.args.lines.now c.loop-line.line-index old mid new c.line-item.result _ (omega arith)
          (ap (text_of_line c.args.session.now) c.line-item.is) c.loop-line.invariant.said c.in_ok-say_line.ensures.said;
      failed = c.in_ok-say_line.ensures.failed ∙ c.loop-line.invariant.failed;
    }

pub returns-clause-said : goal.returns-clause-said
returns-clause-said g c = grind (arith, common_steps)

pub returns-in_err-say_line-clause-stuck : goal.returns-in_err-say_line-clause-stuck
returns-in_err-say_line-clause-stuck g c = λ memory.
    let old = out (g.W.Sink.held c.args.writer.now) c.args.self.now.gathered in
    let mid = out (g.W.Sink.held c.loop-line.writer) c.loop-line.self.gathered in
    let new = out (g.W.Sink.held c.say_line.new.writer) c.say_line.new.self.gathered in
    let both = sym (err_is _ _ c.from_residual.ensures.1) ∙ memory in
    let fault : c.in_err-say_line.field-0.0 ≡ Memory = cc in
    let stuck = c.in_err-say_line.ensures.stuck (ap Err fault) in
    IsStuckBy-lines c.args.session.now c.args.lines.now c.loop-line.line-index old mid new c.line-item.result (omega arith)
    (sym (ap has_parts c.line-item.is) ∙ stuck.0) c.loop-line.invariant.said stuck.1
