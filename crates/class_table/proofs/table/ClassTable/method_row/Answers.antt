use Rattle.std.proofs.Common.{◌∙◌, sym, ap, slice_get}
use Rattle.class_table.specs.Lookup.{inherited, methods}
use Rattle.class_table.proofs.ListLemmas.{slice_get-own}
use Rattle.class_table.proofs.table.ClassTable.method_row.Goals as goal

pub returns-then-row-number-clause-value : goal.returns-then-row-number-clause-value
returns-then-row-number-clause-value c =
    let has = c.in_ok-row.ensures.has in
    c.get.ensures.value ∙ (slice_get-own _ _ _ _ c.args.number has.its_methods has.method_offset c.if-row-number.true
    ∙ (ap (λ base. slice_get (inherited (methods c.args.self.now) base) c.args.number) (sym c.in-Some.is) ∙ c.loop-next.invariant))
