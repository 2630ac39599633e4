use Rattle.std.proofs.Common.{sym}
use Rattle.wire_lines.specs.Sending.{out}
use Rattle.wire_lines.proofs.Answered.{Feeds-served, Fed-blank, Cut-nothing, IsOver-line}
use Rattle.server_world.specs.Server.{seen_as}
use Rattle.wire_lines.proofs.lines.Lines.answer.Goals as goal

pub returns-then-self-clause-fed : goal.returns-then-self-clause-fed
returns-then-self-clause-fed g c = λ rest.
    let here = out (g.W.Sink.held c.args.writer.now) c.args.self.now.output.gathered in (
      Cut-nothing (seen_as c.args.server.now) here _ _ rest,
      IsOver-line _ c.args.self.now.count (seen_as c.args.server.now) here c.args.line.now rest c.requires c.args.self.now.within c.if-self.true,
    )

pub returns-then-is_blank-clause-fed : goal.returns-then-is_blank-clause-fed
returns-then-is_blank-clause-fed g c =
    let here = out (g.W.Sink.held c.args.writer.now) c.args.self.now.output.gathered in
    Fed-blank (seen_as c.args.server.now) here c.args.self.now.count c.args.line.now c.requires (sym c.if-is_blank.ensures)

pub returns-clause-fed : goal.returns-clause-fed
returns-clause-fed g c =
    let before = out (g.W.Sink.held c.args.writer.now) c.args.self.now.output.gathered in
    let after = out (g.W.Sink.held c.serve.new.writer) c.serve.new.self.gathered in
    let (text, answered, sent) = c.serve.ensures.answered in
    Feeds-served (seen_as c.args.server.now) (seen_as c.serve.new.server) before after c.args.self.now.count c.args.line.now c.requires
    c.args.self.now.most _ _ c.serve.result text (sym c.if-is_blank.ensures) answered sent c.serve.ensures.failed c.serve.ensures.stuck
