use Rattle.std.proofs.Common.{◌≡◌, drop}
use Rattle.binding_values.specs.Run.{ats}
use Rattle.property_store.specs.Property.{among}
use Rattle.binding_values.proofs.run.stands_in.Given as goal

abbrev pub invariant-loop-row : goal.invariant-loop-row
invariant-loop-row l = among l.at (ats (drop l.row-index l.rows)) ≡ among l.at (ats l.rows)
