use Rattle.std.proofs.Common.{ap, ◌∙◌, arith}
use Rattle.wire_format.specs.Text.{text_of_line}
use Rattle.metad_c.proofs.OutputLemmas.{said_next}
use Rattle.metad_c.proofs.output.Output.say_each.Goals as goal

pub loop-line-preserved : goal.loop-line-preserved
loop-line-preserved c = record {
  said = said_next (text_of_line c.args.session.now) c.args.lines.now c.loop-line.line-index c.args.self.now.said.items
      c.loop-line.self.said.items c.say.new.self.said.items c.line-item.result _ (omega arith)
      (ap (text_of_line c.args.session.now) c.line-item.is) c.loop-line.invariant.said c.in_ok-say.ensures.ok;
}

pub returns-in_err-say-clause-front : goal.returns-in_err-say-clause-front
returns-in_err-say-clause-front c = (_, c.in_err-say.ensures.err ∙ c.loop-line.invariant.said)

pub returns-clause-front : goal.returns-clause-front
returns-clause-front c = (_, c.loop-line.invariant.said)
