use Rattle.std.proofs.Common.{◌≡◌, ◌++◌}
use Rattle.std.specs.Vec.Iter.{into_iter_items}
use Rattle.property_store.specs.declared.property.Property.{Property}
use Rattle.binding_values.specs.EvalResult.{kept_of}
use Rattle.binding_values.specs.Keeping.{entries, standing}
use Rattle.binding_values.specs.Reached.{HasReaders}
use Rattle.binding_values.proofs.kept_index.keep_all.Given as goal

-- what is kept with those rows that are left
abbrev pub invariant-loop-row : goal.invariant-loop-row
invariant-loop-row l =
    (goal.iterator-loop-row).can_next l.row-iterator ×
    (goal.iterator-loop-row).is_finite l.row-iterator ×
    (((q : Property) → kept_of (standing l.rows ++ into_iter_items l.row-iterator) q ≡ kept_of (standing l.fn.rows ++ l.fn.found.items) q)
    × HasReaders (entries l.rows) l.readers)
