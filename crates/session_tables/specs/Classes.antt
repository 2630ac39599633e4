-- The classes of objects.
use Rattle.std.specs.Prelude.{◌≡◌, ℕ, Some, option_map}
use Rattle.object_tree.specs.Rows.{row_of}
use Rattle.session_model.specs.State.{State}

-- The object exists, and this is the index of its class.
abbrev pub HasClass : State → ℕ → ℕ → Type 0
HasClass state object class = option_map (λ row. row.class) (row_of state.forest.rows object) ≡ Some class
