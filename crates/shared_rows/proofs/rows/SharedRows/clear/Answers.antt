use Rattle.std.proofs.Common.{◌≡◌, ◌∙◌, ◌-◌, [], length, is_some, ap, arith}
use Rattle.shared_rows.proofs.TableLemmas.{changes_open, changes_twice, changes_with, with_there}
use Rattle.shared_rows.specs.Rows.{rows_at, without}
use Rattle.shared_rows.proofs.RowsLemmas.{length-without, some_at}
use Rattle.shared_rows.proofs.rows.SharedRows.clear.Goals as goal

pub remove-requires-clause-stands : goal.remove-requires-clause-stands
remove-requires-clause-stands g c =
    some_at (rows_at c.rows.self c.args.place) (c.len-in-rows.result - 1) c.at-key.result.0 c.at-key.result.1.now
    (omega (arith, c.len-in-rows.ensures.len)) c.at-key.ensures

pub rows-smaller : goal.rows-smaller
rows-smaller g c =
    let rest : rows_at c.remove.new.self c.args.place ≡ without (rows_at c.rows.self c.args.place) c.at-key.result.0 =
    ap (λ table. rows_at table c.args.place) c.remove.ensures.rest
    ∙ with_there [] c.rows.self c.args.place (without (rows_at c.rows.self c.args.place) c.at-key.result.0) c.rows.invariant.place in
    omega (arith, ap length rest, length-without (rows_at c.rows.self c.args.place) c.at-key.result.0 (ap is_some c.remove.ensures.row))

pub rows-preserved : goal.rows-preserved
rows-preserved g c =
    let after = changes_with [] c.rows.self c.remove.new.self c.args.place
    (without (rows_at c.rows.self c.args.place) c.at-key.result.0) c.rows.invariant.place c.remove.ensures.rest in
    record {
      place = changes_open [] c.rows.self c.remove.new.self c.args.place after c.rows.invariant.place;
      changed = changes_twice [] c.args.self.now c.rows.self c.remove.new.self c.args.place c.rows.invariant.changed after;
    }
