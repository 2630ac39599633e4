use Rattle.std.proofs.Common.{◌∙◌, ap, sym}
use Rattle.binding_values.specs.Sorted.{is_before}
use Rattle.binding_values.proofs.SortedLemmas.{search_before, search_behind}
use Rattle.binding_values.proofs.sorted.search.Goals as goal

pub loop-low-preserved-then-is_before : goal.loop-low-preserved-then-is_before
loop-low-preserved-then-is_before g c =
    search_behind g.T.HasProperty.at c.args.rows.now c.args.at c.requires c.loop-low.low c.loop-low.high _ c.index-rows-middle.result c.loop-low.invariant
    c.probe-middle.ensures.0 c.probe-middle.ensures.1 c.index-rows-middle.is
    (ap (λ p. is_before p c.args.at) (sym c.at.ensures) ∙ (sym c.is_before.ensures ∙ c.if-is_before.true))

pub loop-low-preserved : goal.loop-low-preserved
loop-low-preserved g c =
    search_before g.T.HasProperty.at c.args.rows.now c.args.at c.requires c.loop-low.low c.loop-low.high _ c.index-rows-middle.result c.loop-low.invariant
    c.probe-middle.ensures.0 c.probe-middle.ensures.1 c.index-rows-middle.is
    (ap (λ p. is_before p c.args.at) (sym c.at.ensures) ∙ (sym c.is_before.ensures ∙ c.if-is_before.false))
