use Rattle.std.proofs.Common.{◌∙◌, ℕ, List, [], ◌∷◌, ◌++◌, take, refl, sym, subst, lit<, arith}
use Rattle.wire_format.specs.Input.{NoEnd}
use Rattle.std.proofs.lemmas.Grind.{common_steps}
use Rattle.wire_lines.specs.declared.buffer.TheConstants.{BUFFER_BYTES}
use Rattle.wire_lines.specs.Sending.{out}
use Rattle.wire_lines.specs.Stream.{Fed, Feeds}
use Rattle.wire_lines.specs.Feeding.{at}
use Rattle.wire_lines.proofs.Feeding.{Fed-more, Fed-refl, Fed-trans, Feeds-stopped}
use Rattle.wire_lines.proofs.Long.{NoEnd-take, NoEnd-append}
use Rattle.wire_lines.proofs.Kept.{Fed-kept, err_is, line_in_front}
use Rattle.server_world.specs.Server.{seen_as}
use Rattle.wire_lines.proofs.stream.Stream.feed.Goals as goal

pub returns-in_err-end_line-clause-fed : goal.returns-in_err-end_line-clause-fed
returns-in_err-end_line-clause-fed g c =
    let start = at (g.W.Sink.held c.args.writer.now) c.args.self.now.lines (seen_as c.args.server.now) (c.args.self.now.begun ++ c.args.chunk.now) in
    let here = λ (begun : List ℕ). at (g.W.Sink.held c.lines.writer) c.lines.self.lines (seen_as c.lines.server) begun in
    let next = at (g.W.Sink.held c.end_line.new.writer) c.end_line.new.self.lines (seen_as c.end_line.new.server) [] in
    let line = (c.lines.self.begun ++ c.in-Some.line.now) ++ 10 ∷ [] in
    let so_far : Fed start (here (line ++ c.in-Some.behind.now)) =
    subst (λ (begun : List ℕ). Fed start (here begun)) (line_in_front _ _ _ _ c.in-Some.ensures.whole) c.lines.invariant.fed in
    let stopped = Feeds-stopped c.lines.self.lines.most c.in_err-end_line.field-0.0 start
    (here line) next c.in-Some.behind.now c.end_line.new.self.begun c.from_residual.result
    so_far c.in_err-end_line.ensures.fed (err_is _ _ c.from_residual.ensures.1) in
    subst (λ (most : ℕ). Feeds most start (at (g.W.Sink.held c.end_line.new.writer) c.end_line.new.self.lines
    (seen_as c.end_line.new.server) c.end_line.new.self.begun) c.from_residual.result) c.lines.invariant.most stopped

pub lines-preserved : goal.lines-preserved
lines-preserved g c =
    let start = at (g.W.Sink.held c.args.writer.now) c.args.self.now.lines (seen_as c.args.server.now) (c.args.self.now.begun ++ c.args.chunk.now) in
    let here = λ (begun : List ℕ). at (g.W.Sink.held c.lines.writer) c.lines.self.lines (seen_as c.lines.server) begun in
    let next = λ (begun : List ℕ). at (g.W.Sink.held c.end_line.new.writer) c.end_line.new.self.lines (seen_as c.end_line.new.server) begun in
    let line = (c.lines.self.begun ++ c.in-Some.line.now) ++ 10 ∷ [] in
    let behind = c.in-Some.behind.now in
    let so_far : Fed start (here (line ++ behind)) = subst (λ (begun : List ℕ). Fed start (here begun))
    (line_in_front _ _ _ _ c.in-Some.ensures.whole) c.lines.invariant.fed in
    let ended = c.in_ok-end_line.ensures in
    let fed : Fed start (next behind) = Fed-trans start (here (line ++ behind)) (next behind) so_far (Fed-more (here line) (next []) behind ended.fed) in
    record {
      fed = subst (λ (begun : List ℕ). Fed start (next (begun ++ behind))) (sym ended.begun) fed;
      failed = ended.failed ∙ c.lines.invariant.failed;
      most = ended.most ∙ c.lines.invariant.most;
    }

pub invariant_of-self : goal.invariant_of-self
invariant_of-self g c =
    let whole = NoEnd-append c.lines.self.begun c.lines.rest.now c.lines.self.no_end (c.in_default.ensures.none refl) in
    record { no_end = subst NoEnd (sym c.keep.ensures) (NoEnd-take BUFFER_BYTES (c.lines.self.begun ++ c.lines.rest.now) whole) }

pub returns-clause-fed : goal.returns-clause-fed
returns-clause-fed g c =
    let start = at (g.W.Sink.held c.args.writer.now) c.args.self.now.lines (seen_as c.args.server.now) (c.args.self.now.begun ++ c.args.chunk.now) in
    let here = λ (begun : List ℕ). at (g.W.Sink.held c.lines.writer) c.lines.self.lines (seen_as c.lines.server) begun in
    let rest = c.lines.self.begun ++ c.lines.rest.now in
    let whole = NoEnd-append c.lines.self.begun c.lines.rest.now c.lines.self.no_end (c.in_default.ensures.none refl) in
    let kept = Fed-kept (seen_as c.lines.server) (out (g.W.Sink.held c.lines.writer) c.lines.self.lines.output.gathered) c.lines.self.lines.count BUFFER_BYTES
    rest whole (lit< tt) in
    subst (λ (begun : List ℕ). Fed start (here begun)) (sym c.keep.ensures)
    (Fed-trans start (here rest) (here (take BUFFER_BYTES rest)) c.lines.invariant.fed kept)

pub lines-init : goal.lines-init
lines-init g c = record {
  fed = Fed-refl (at (g.W.Sink.held c.args.writer.now) c.args.self.now.lines (seen_as c.args.server.now) (c.args.self.now.begun ++ c.args.chunk.now));
  failed = refl;
  most = refl;
}

pub lines-smaller : goal.lines-smaller
lines-smaller g c = grind (arith, common_steps)
