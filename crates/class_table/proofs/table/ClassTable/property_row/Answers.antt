use Rattle.std.proofs.Common.{◌∙◌, ◌<◌, ◌++◌, sym, ap, append_assoc, length, slice_get, arith}
use Rattle.class_table.specs.Lookup.{inherited, methods, properties}
use Rattle.class_table.proofs.ListLemmas.{slice_get-front, slice_get-own}
use Rattle.class_table.proofs.table.ClassTable.property_row.Goals as goal

pub loop-next-preserved : goal.loop-next-preserved
loop-next-preserved c =
    let rows = c.args.self.now in
    let number = c.args.number in
    let row = c.in_ok-row.row.now in
    let has = c.in_ok-row.ensures.has in
    let more = c.loop-next.invariant.front.0 in
    let within : number < length (inherited (properties rows) row.superclass) = omega (arith, has.property_offset) in
    record {
      same = sym (slice_get-front (inherited (properties rows) row.superclass) row.properties number within)
          ∙ (ap (λ l. slice_get l number) (sym has.its_properties)
          ∙ (ap (λ o. slice_get (inherited (properties rows) o) number) (sym c.in-Some.is) ∙ c.loop-next.invariant.same));
      front = (
        row.methods ++ more,
        c.loop-next.invariant.front.1
            ∙ (ap (λ o. inherited (methods rows) o ++ more) c.in-Some.is
            ∙ (ap (λ l. l ++ more) has.its_methods ∙ append_assoc (inherited (methods rows) row.superclass) row.methods more)),
      );
    }

pub returns-then-row-number-clause-value : goal.returns-then-row-number-clause-value
returns-then-row-number-clause-value c =
    let has = c.in_ok-row.ensures.has in
    c.get.ensures.value ∙ (slice_get-own _ _ _ _ c.args.number has.its_properties has.property_offset c.if-row-number.true
    ∙ (ap (λ base. slice_get (inherited (properties c.args.self.now) base) c.args.number) (sym c.in-Some.is) ∙ c.loop-next.invariant.same))
