use Rattle.std.proofs.Common.{◌∙◌, sym, ap}
use Rattle.class_table.specs.Lookup.{inherited, method_number, methods}
use Rattle.class_table.proofs.SpelledLemmas.{own_none, own_only}
use Rattle.class_table.proofs.table.ClassTable.method.Goals as goal

pub returns-in-Some-own_method : goal.returns-in-Some-own_method
returns-in-Some-own_method c =
    let rows = c.args.self.now in
    let wanted = c.args.signature.now in
    sym (own_only rows c.in-Some.index c.in_ok-row.row.now wanted c.in-Some-own_method.number c.in_ok-row.ensures.table c.in_ok-row.ensures.has
    c.in-Some-own_method.ensures)
    ∙ ap (λ o. method_number wanted (inherited (methods rows) o)) (sym c.in-Some.is) ∙ c.loop-next.invariant

pub loop-next-preserved : goal.loop-next-preserved
loop-next-preserved c =
    let rows = c.args.self.now in
    let wanted = c.args.signature.now in
    own_none rows c.in-Some.index c.in_ok-row.row.now wanted c.in_ok-row.ensures.has c.in_default-own_method.ensures
    ∙ ap (λ o. method_number wanted (inherited (methods rows) o)) (sym c.in-Some.is) ∙ c.loop-next.invariant
