use Rattle.std.proofs.Common.{◌∙◌, sym, arith}
use Rattle.std.specs.Option.{option_or}
use Rattle.std.proofs.lemmas.Grind.{common_steps}
use Rattle.class_table.specs.Lookup.{inherited, property_number, properties}
use Rattle.class_table.proofs.TableLemmas.{property-step}
use Rattle.class_table.proofs.table.ClassTable.property.Goals as goal

pub loop-next-preserved : goal.loop-next-preserved
loop-next-preserved c =
    let rows = c.args.self.now in
    let wanted = c.args.name.now in
    let row = c.in-Some-class_row.row.now in
    let found = c.loop-next.found in
    let up = property-step rows c.in-Some.index row c.in-Some-class_row.ensures.has wanted found in
    let here = (λ i. option_or (property_number wanted (inherited (properties rows) (sym c.in-Some.is i))) found) ∙ c.loop-next.invariant in
    rw (c.or-found.ensures, c.own_property.ensures) (up ∙ here)

pub own_property-requires : goal.own_property-requires
own_property-requires c = grind (arith, common_steps)
