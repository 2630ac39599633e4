use Rattle.std.proofs.Common.{List, ℕ, [], ◌∷◌, ◌++◌, sym, subst, refl}
use Rattle.wire_lines.specs.Sending.{out}
use Rattle.wire_lines.specs.Stream.{Done, Feeds}
use Rattle.wire_lines.specs.Feeding.{at}
use Rattle.wire_lines.proofs.Kept.{point, Done-nothing, Finishes-last, length-some}
use Rattle.server_world.specs.Server.{seen_as}
use Rattle.wire_lines.proofs.stream.Stream.finish.Goals as goal

pub returns-then-is_empty-clause-done : goal.returns-then-is_empty-clause-done
returns-then-is_empty-clause-done g c =
    let old = c.args.self.now in
    let here = out (g.W.Sink.held c.args.writer.now) old.lines.output.gathered in
    subst (λ (begun : List ℕ). Done (point (seen_as c.args.server.now) here old.lines.count begun) (point (seen_as c.args.server.now) here old.lines.count []))
    (sym (c.if-is_empty.ensures.0 refl)) (Done-nothing (seen_as c.args.server.now) here old.lines.count)

pub returns-clause-done : goal.returns-clause-done
returns-clause-done g c =
    let old = c.args.self.now in
    let before = out (g.W.Sink.held c.args.writer.now) old.lines.output.gathered in
    let after = at (g.W.Sink.held c.answer.new.writer) c.answer.new.self (seen_as c.answer.new.server) [] in
    let answered = subst (λ (line : List ℕ). Feeds old.lines.most
    (point (seen_as c.args.server.now) before old.lines.count (line ++ 10 ∷ [])) after c.answer.result) c.as_slice.ensures c.answer.ensures.fed in
    Finishes-last old.lines.most (seen_as c.args.server.now) (seen_as c.answer.new.server) before after.out old.lines.count c.answer.new.self.count old.begun
    c.answer.result old.no_end
    (length-some old.begun (λ empty. absurd (cc (c.if-is_empty.ensures.1 empty)))) answered
