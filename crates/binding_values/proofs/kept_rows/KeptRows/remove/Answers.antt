use Rattle.std.proofs.Common.{◌≡◌, ◌∙◌, not, subst, sym, true, arith}
use Rattle.std.proofs.lemmas.List.Kept.{AllPairs-filter}
use Rattle.binding_values.specs.declared.kept_rows.KeptRow.{KeptRow}
use Rattle.binding_values.specs.Sorted.{IsRising, is_before}
use Rattle.property_store.specs.Property.{is_property}
use Rattle.binding_values.proofs.SortedLemmas.{without_none, without_row}
use Rattle.binding_values.proofs.kept_rows.KeptRows.remove.Goals as goal

pub remove-requires : goal.remove-requires
remove-requires c = omega (arith, c.self.inside.rows.ok.0, (rw c.as_slice.ensures.value at c.in-Ok.ensures.row).within)

pub invariant_of-self : goal.invariant_of-self
invariant_of-self c =
    subst (IsRising (λ (row : KeptRow). row.at))
    (without_row (rw c.as_slice.ensures.value at c.in-Ok.ensures.row) c.self.invariant ∙ sym c.remove.ensures.items)
    (AllPairs-filter (λ (earlier : KeptRow) (later : KeptRow). is_before earlier.at later.at ≡ true)
    (λ (row : KeptRow). not (is_property c.args.at row.at)) c.self.inside.rows.items c.self.invariant)

pub returns-in-Ok : goal.returns-in-Ok
returns-in-Ok c = rw (← c.self.view_is)
    (c.remove.ensures.items ∙ sym (without_row (rw c.as_slice.ensures.value at c.in-Ok.ensures.row) c.self.invariant))

pub returns-in-Err : goal.returns-in-Err
returns-in-Err c = rw (← c.self.view_is) (sym (without_none (rw c.as_slice.ensures.value at c.in-Err.ensures.gap)))
