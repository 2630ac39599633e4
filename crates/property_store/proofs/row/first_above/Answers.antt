use Rattle.std.proofs.Common.{◌∙◌, Some, arith, ap, sym, rules}
use Rattle.shared_rows.specs.Rows.{Keyed, rows_at}
use Rattle.property_store.specs.declared.row.Row.{Row}
use Rattle.property_store.proofs.SearchLemmas.{next_nowhere, next_there}
use Rattle.property_store.proofs.row.first_above.Goals as goal

pub returns-then-position-len : goal.returns-then-position-len
returns-then-position-len c = search (rules, next_nowhere)

pub returns : goal.returns
returns c =
    let keyed : Keyed Row = record { key = c.at.result.0; row = c.at.result.1.now } in
    sym (next_there (rows_at c.args.rows.now c.args.place) c.args.after c.count_up_to-position.result c.count_up_to-position.ensures
    (omega (arith, c.if-position-len.false, c.len.ensures.len, c.count_up_to-position.ensures.within)) keyed
    ∙ ap (λ (k : Keyed Row). Some k.row.object) (c.at.ensures keyed))
