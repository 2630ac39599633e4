use Rattle.std.proofs.Common.{◌∙◌, ap, option_map, sym}
use Rattle.binding_values.specs.Keeping.{fresh}
use Rattle.binding_values.proofs.KeepingLemmas.{held_in, kept_at}
use Rattle.binding_values.proofs.kept_rows.KeptRows.at.Goals as goal

pub returns-in_err-row : goal.returns-in_err-row
returns-in_err-row c =
    ap (option_map (λ kept. kept.now)) c.from_residual.ensures
    ∙ rw (← c.self.view_is) (ap (held_in fresh) (rw c.as_slice.ensures.value at c.in_err-row.ensures)
    ∙ sym (kept_at fresh c.self.inside.rows.items c.args.at c.self.invariant))

pub returns : goal.returns
returns c = rw (← c.self.view_is) (c.fresh.ensures ∙ (ap (held_in fresh) (rw c.as_slice.ensures.value at c.in_ok-row.ensures)
    ∙ sym (kept_at fresh c.self.inside.rows.items c.args.at c.self.invariant)))
