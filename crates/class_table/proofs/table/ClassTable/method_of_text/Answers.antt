use Rattle.std.proofs.Common.{◌∙◌, ◌++◌, ap}
use Rattle.class_table.specs.Lookup.{inherited, methods}
use Rattle.class_table.proofs.SpelledLemmas.{spelled_in}
use Rattle.class_table.proofs.table.ClassTable.method_of_text.Goals as goal

pub returns-in-Some-own_method_of_text : goal.returns-in-Some-own_method_of_text
returns-in-Some-own_method_of_text c =
    let rows = c.args.self.now in
    let more = c.loop-next.invariant.0 in
    spelled_in rows c.args.class c.in-Some.index c.in_ok-row.row.now more c.args.text.now c.in-Some-own_method_of_text.number c.in_ok-row.ensures.table
    c.in_ok-row.ensures.has
    (c.loop-next.invariant.1 ∙ ap (λ o. inherited (methods rows) o ++ more) c.in-Some.is) c.in-Some-own_method_of_text.ensures
