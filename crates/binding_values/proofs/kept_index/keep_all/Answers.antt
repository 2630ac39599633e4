use Rattle.std.proofs.Common.{◌≡◌, ◌∙◌, ◌++◌, ◌∷◌, rules, ap, sym}
use Rattle.std.specs.Vec.Iter.{into_iter_items}
use Rattle.binding_values.specs.EvalResult.{kept_of}
use Rattle.binding_values.specs.Keeping.{standing}
use Rattle.binding_values.proofs.ReachedLemmas.{kept_next}
use Rattle.binding_values.proofs.kept_index.keep_all.Goals as goal

pub loop-row-preserved : goal.loop-row-preserved
loop-row-preserved c =
    let rest = into_iter_items c.next.new.self in
    let left : into_iter_items c.loop-row.row-iterator ≡ c.in-Some.row ∷ rest = search rules in (
      tt,
      tt,
      (
        kept_next (standing c.loop-row.rows) (standing c.keep.new.rows) c.in-Some.row rest (standing c.args.rows.now ++ c.args.found.items)
            c.in_ok-keep.ensures.kept
            (λ q. ap (λ l. kept_of (standing c.loop-row.rows ++ l) q) (sym left) ∙ c.loop-row.invariant.2.0 q),
        c.in_ok-keep.ensures.readers,
      ),
    )
