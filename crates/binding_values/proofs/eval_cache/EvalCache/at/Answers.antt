use Rattle.std.proofs.Common.{◌∙◌, Some, None, ap, option_map, sym}
use Rattle.binding_values.proofs.EvalCacheLemmas.{kept_by_entry, none_by_entry}
use Rattle.binding_values.proofs.RunLemmas.{kept_append_none, kept_append_some}
use Rattle.binding_values.proofs.eval_cache.EvalCache.at.Goals as goal

pub returns-in-Some : goal.returns-in-Some
returns-in-Some c = rw (← c.self.view_is)
    (sym (kept_append_some c.self.inside.base c.self.inside.rows.items c.args.at c.in-Some.kept.now (sym c.in-Some.ensures)))

pub returns-in_err-entry : goal.returns-in_err-entry
returns-in_err-entry c =
    ap (option_map (λ kept. kept.now)) c.from_residual.ensures
    ∙ rw (← c.self.view_is) (none_by_entry c.self.inside.rows.items c.self.inside.order.items c.self.invariant c.args.at
    (rw c.as_slice.ensures.value at c.in_err-entry.ensures)
    ∙ sym (kept_append_none c.self.inside.base c.self.inside.rows.items c.args.at (sym c.in_default.ensures)))

pub returns-in_err-row : goal.returns-in_err-row
returns-in_err-row c =
    ap (option_map (λ kept. kept.now)) c.from_residual-in_err-row.ensures
    ∙ rw (← c.self.view_is) (kept_by_entry c.self.inside.rows.items c.self.inside.order.items c.self.invariant c.args.at c.in_ok-entry.entry.now None
    (rw c.as_slice.ensures.value at c.in_ok-entry.ensures) (rw c.as_slice-2.ensures.value at c.in_err-row.ensures)
    ∙ sym (kept_append_none c.self.inside.base c.self.inside.rows.items c.args.at (sym c.in_default.ensures)))

pub returns : goal.returns
returns c =
    rw (← c.self.view_is) (kept_by_entry c.self.inside.rows.items c.self.inside.order.items c.self.invariant c.args.at c.in_ok-entry.entry.now
    (Some c.in_ok-row.row.now) (rw c.as_slice.ensures.value at c.in_ok-entry.ensures) (rw c.as_slice-2.ensures.value at c.in_ok-row.ensures)
    ∙ sym (kept_append_none c.self.inside.base c.self.inside.rows.items c.args.at (sym c.in_default.ensures)))
