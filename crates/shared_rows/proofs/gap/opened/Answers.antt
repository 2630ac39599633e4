use Rattle.std.proofs.Common.{◌≡◌, ◌∙◌, sym, ap, arith}
use Rattle.shared_rows.specs.Gap.{without}
use Rattle.shared_rows.proofs.GapLemmas.{length-without, without_end, without_none}
use Rattle.shared_rows.proofs.gap.opened.Goals as goal

pub returns-clause-items : goal.returns-clause-items
returns-clause-items g c =
    let list = c.args.places.now.items in
    let none : c.args.gap.gone ≡ 0 = omega arith in
    without_end c.copies.places.items list c.len-len.result c.min-gone.result c.copies.invariant.items
    (omega arith)
    ∙ sym (ap (λ n. without list c.args.gap.start n) none ∙ without_none list c.args.gap.start)

pub returns-clause-some : goal.returns-clause-some
returns-clause-some g c = omega (arith, length-without)
