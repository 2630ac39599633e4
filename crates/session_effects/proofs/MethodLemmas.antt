-- The methods of an object.
use Rattle.std.proofs.Common.{◌≡◌, ℕ, [], Option, Some, None, ap}
use Rattle.std.specs.Prelude.{option_map}
use Rattle.std.specs.Option.{option_map_or}
use Rattle.class_table.specs.Lookup.{methods}
use Rattle.object_tree.specs.declared.row.Row.{Row}
use Rattle.object_tree.specs.Rows.{row_of}
use Rattle.session_model.specs.Methods.{methods_of}
use Rattle.session_model.specs.Settings.{Settings}
use Rattle.session_model.specs.State.{State}
use Rattle.session_tables.specs.Classes.{HasClass}

-- the methods of an object are those of its class
pub methods_by_class : (settings : Settings) (state : State) (object class : ℕ) → HasClass state object class
    → methods_of settings state object ≡ methods settings.classes class
methods_by_class settings state object class has = by (row_of state.forest.rows object) has
  where
    by : (row : Option Row) → option_map (λ row. row.class) row ≡ Some class
        → option_map_or (λ row. methods settings.classes row.class) row [] ≡ methods settings.classes class
    by None e = absurd (cc)
    by (Some row) e = let same : row.class ≡ class = cc in ap (methods settings.classes) same
