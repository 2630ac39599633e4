use Rattle.std.proofs.Common.{◌∙◌, Some, ap, sym}
use Rattle.shared_rows.specs.Table.{with_place}
use Rattle.shared_rows.specs.Rows.{rows_at, with_row}
use Rattle.property_store.specs.declared.row.Row.{Row}
use Rattle.property_store.specs.Store.{fields_in}
use Rattle.property_store.specs.Storing.{AreAsMany}
use Rattle.property_store.proofs.PlaceLemmas.{under_all}
use Rattle.property_store.proofs.row.write_under.Goals as goal

pub update-requires-clause-callable : goal.update-requires-clause-callable
update-requires-clause-callable c = λ lent under. under_all (λ (row : Row). AreAsMany (fields_in c.args.layouts.now row.class) row)
    (rows_at c.args.rows.now c.args.place) c.requires.many c.args.key lent.now under

pub returns : goal.returns
returns c =
    let done = c.update.ensures in
    record {
      row = done.3.shown.now;
      changed = done.3.left.now;
      under = done.2 ∙ ap Some (sym done.3.shows);
      done = done.3.met;
      new_is = done.4 ∙ ap (λ (r : Row). with_place c.args.rows.now c.args.place (with_row (rows_at c.args.rows.now c.args.place) c.args.key r))
          (sym done.3.leaves);
    }
