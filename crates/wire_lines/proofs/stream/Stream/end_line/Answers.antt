use Rattle.std.proofs.Common.{◌∙◌, ℕ, List, [], ◌∷◌, ◌++◌, take, sym, subst, lit<}
use Rattle.wire_format.specs.Input.{NoEnd}
use Rattle.wire_lines.specs.declared.buffer.TheConstants.{BUFFER_BYTES}
use Rattle.wire_lines.specs.Sending.{out}
use Rattle.wire_lines.specs.Stream.{Feeds}
use Rattle.wire_lines.specs.Feeding.{at}
use Rattle.wire_lines.proofs.Feeding.{Fed-more, Feeds-after}
use Rattle.wire_lines.proofs.Long.{NoEnd-take, NoEnd-append}
use Rattle.wire_lines.proofs.Kept.{point, Fed-kept}
use Rattle.server_world.specs.Server.{seen_as}
use Rattle.wire_lines.proofs.stream.Stream.end_line.Goals as goal

pub answer-answered-requires : goal.answer-answered-requires
answer-answered-requires g c =
    let whole = NoEnd-append c.args.self.now.begun c.args.line.now c.args.self.now.no_end c.requires in
    subst NoEnd (sym (c.as_slice.ensures ∙ c.keep.ensures)) (NoEnd-take BUFFER_BYTES (c.args.self.now.begun ++ c.args.line.now) whole)

pub returns-clause-fed : goal.returns-clause-fed
returns-clause-fed g c =
    let old = c.args.self.now in
    let begun = old.begun ++ c.args.line.now in
    let before = out (g.W.Sink.held c.args.writer.now) old.lines.output.gathered in
    let whole = NoEnd-append old.begun c.args.line.now old.no_end c.requires in
    let kept = Fed-kept (seen_as c.args.server.now) before old.lines.count BUFFER_BYTES begun whole (lit< tt) in
    let answered = subst (λ (line : List ℕ). Feeds old.lines.most (point (seen_as c.args.server.now) before old.lines.count (line ++ 10 ∷ []))
    (at (g.W.Sink.held c.answer-answered.new.writer) c.answer-answered.new.self (seen_as c.answer-answered.new.server) []) c.answer-answered.result)
    (c.as_slice.ensures ∙ c.keep.ensures) c.answer-answered.ensures.fed in
    Feeds-after old.lines.most (point (seen_as c.args.server.now) before old.lines.count (begun ++ 10 ∷ []))
    (point (seen_as c.args.server.now) before old.lines.count (take BUFFER_BYTES begun ++ 10 ∷ []))
    (at (g.W.Sink.held c.answer-answered.new.writer) c.answer-answered.new.self (seen_as c.answer-answered.new.server) []) c.answer-answered.result
    (Fed-more (point (seen_as c.args.server.now) before old.lines.count begun)
    (point (seen_as c.args.server.now) before old.lines.count (take BUFFER_BYTES begun)) (10 ∷ []) kept) answered
