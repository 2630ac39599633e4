use Rattle.std.proofs.Common.{◌∙◌, ap, refl, sym, rules}
use Rattle.shared_rows.specs.Table.{with_place}
use Rattle.shared_rows.specs.Rows.{rows_at, with_row}
use Rattle.property_store.specs.declared.row.Row.{Row}
use Rattle.property_store.proofs.LinkLemmas.{link_of_old, link_stands, unlinked_row}
use Rattle.property_store.proofs.StoreLemmas.{IsRowOf, row_stands}
use Rattle.property_store.proofs.row.unlink.Goals as goal

pub update-requires-clause-callable : goal.update-requires-clause-callable
update-requires-clause-callable c = search (rules, row_stands, link_stands, link_of_old)

-- the row of the object is changed
is_row : (c : goal.After-update) → IsRowOf (rows_at c.args.rows.now c.args.place) c.unwrap-key.result c.args.at.object c.update.ensures.3.shown.now
is_row c = search (rules, row_stands)

pub returns-clause-link : goal.returns-clause-link
returns-clause-link c =
    let done = c.update.ensures in
    link_of_old (rows_at c.args.rows.now c.args.place) c.unwrap-key.result c.args.at.object done.3.shown.now done.3.shown.now (is_row c)
    (is_row c).numbered c.args.at refl ∙ done.3.met.was

pub returns-clause-rest : goal.returns-clause-rest
returns-clause-rest c =
    let done = c.update.ensures in
    let rows = rows_at c.args.rows.now c.args.place in
    done.4
    ∙ (ap (λ (r : Row). with_place c.args.rows.now c.args.place (with_row rows c.unwrap-key.result r)) (sym done.3.leaves ∙ done.3.met.rest)
    ∙ ap (with_place c.args.rows.now c.args.place) (unlinked_row c.args.at rows c.unwrap-key.result done.3.shown.now (is_row c)))
