use Rattle.std.proofs.Common.{◌≡◌, ◌<◌, ◌-◌, ◌∙◌, ℕ, Result, [], ◌++◌, length, length-append, refl, sym, ap, subst, arith, append_assoc}
use Rattle.std.proofs.lemmas.List.Prefix.{end_rest}
use Rattle.std.specs.Prelude.{IfErr}
use Rattle.std.proofs.lemmas.Grind.{common_steps}
use Rattle.server_world.specs.Server.{seen_as}
use Rattle.wire_lines.specs.declared.slice.Slicing.{Slicing}
use Rattle.wire_lines.specs.declared.fault.RunFault.{RunFault}
use Rattle.wire_lines.specs.Taking.{HasStopped, HasTaken, first_line, line_at}
use Rattle.wire_lines.specs.Standing.{noted}
use Rattle.wire_lines.proofs.Answering.{Later-same, Later-trans}
use Rattle.wire_lines.proofs.Kept.{err_is}
use Rattle.wire_lines.proofs.Taken.{HasStopped-line, HasTaken-line, HasTaken-nothing}
use Rattle.wire_lines.proofs.slice.Slicing.take_all.Goals as goal

pub lines-init : goal.lines-init
lines-init g c =
    let made = c.new-slicing.ensures in
    let server = seen_as c.args.server.now in
    record {
      taken = HasTaken-nothing c.args.input.now server _ _ _ made.notes made.starts made.count;
      behind = ([], refl);
      later = Later-same server server refl;
    }

pub lines-preserved : goal.lines-preserved
lines-preserved g c =
    let input = c.args.input.now in
    let rest = c.lines.rest.now in
    let some : 0 < length rest = grind (arith, common_steps, c.lines-test.ensures) in
    let line = c.first_line.result.0.now in
    let behind = c.first_line.result.1.now in
    let now = noted c.lines.slicing (seen_as c.lines.server) in
    let next = noted c.take.new.self (seen_as c.take.new.server) in
    let (front, is) = c.lines.invariant.behind in
    let (more, split, longer) = c.first_line.ensures.behind some in
    let start = length input - length rest in
    let below : start < length input = omega (arith, ap length is, length-append front rest, some) in
    let here : line_at input start ≡ line = ap first_line (end_rest input rest front is) ∙ sym c.first_line.ensures.line in
    let taken = HasTaken-line input (seen_as c.args.server.now) now c.lines.slicing.count rest c.lines.invariant.taken line behind
    (c.first_line.ensures.lines some) start next below here c.in_ok-take.ensures.taken in
    record {
      taken = subst (λ (count : ℕ). HasTaken input (seen_as c.args.server.now) next count behind) (sym c.in_ok-take.ensures.counted) taken;
      behind = (front ++ more, is ∙ ap (λ l. front ++ l) split ∙ sym (append_assoc front more behind));
      later = Later-trans _ _ _ c.lines.invariant.later c.in_ok-take.ensures.later;
    }

pub lines-smaller : goal.lines-smaller
lines-smaller g c =
    let some : 0 < length c.lines.rest.now = grind (arith, common_steps, c.lines-test.ensures) in
    let (more, split, longer) = c.first_line.ensures.behind some in
    let parts = ap length split ∙ length-append more c.first_line.result.1.now in
    omega (arith, parts, longer)

pub overflow_sub-input : goal.overflow_sub-input
overflow_sub-input g c =
    let (front, is) = c.lines.invariant.behind in
    let parts = ap length is ∙ length-append front c.lines.rest.now in
    omega (arith, parts)

pub returns-in_err-take-clause-stopped : goal.returns-in_err-take-clause-stopped
returns-in_err-take-clause-stopped g c =
    let input = c.args.input.now in
    let old = seen_as c.args.server.now in
    let new = seen_as c.take.new.server in
    let now = noted c.lines.slicing (seen_as c.lines.server) in
    let some : 0 < length c.lines.rest.now = grind (arith, common_steps, c.lines-test.ensures) in
    let first = c.first_line.ensures.lines some in
    let stopped = HasStopped-line input old now c.lines.slicing.count c.lines.rest.now c.lines.invariant.taken c.first_line.result.0.now
    c.first_line.result.1.now first c.in_err-take.field-0.0 new c.in_err-take.ensures.stopped in
    subst (λ (r : Result Slicing RunFault). IfErr r (λ fault. HasStopped fault input old new)) (sym (err_is _ _ c.from_residual.ensures.1)) stopped

pub returns-in_err-take-clause-later : goal.returns-in_err-take-clause-later
returns-in_err-take-clause-later g c = Later-trans _ _ _ c.lines.invariant.later c.in_err-take.ensures.later

pub returns-clause-taken : goal.returns-clause-taken
returns-clause-taken g c =
    let none : c.lines.rest.now ≡ [] = grind (arith, common_steps, c.lines-test.ensures) in
    subst (HasTaken c.args.input.now (seen_as c.args.server.now) (noted c.lines.slicing (seen_as c.lines.server)) c.lines.slicing.count) none
    c.lines.invariant.taken

pub returns-clause-later : goal.returns-clause-later
returns-clause-later g c = c.lines.invariant.later
