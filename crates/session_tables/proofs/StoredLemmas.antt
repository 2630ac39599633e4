-- The properties of a session's objects.
use Rattle.std.proofs.Common.{◌≡◌, ◌∙◌, ◌+◌, ◌≤◌, ◌==◌, Option, Some, None, find, refl, sym, ap, subst, arith}
use Rattle.std.specs.Option.{option_map}
use Rattle.std.proofs.lemmas.Bool.{eqb-true}
use Rattle.object_tree.specs.declared.row.Row.{Row}
use Rattle.object_tree.specs.Forest.{Forest, IsSound}
use Rattle.object_tree.specs.Rows.{has_number, row_of}
use Rattle.property_store.specs.Store.{Properties, properties_of}
use Rattle.property_store.proofs.ForCallers.{find_over_map, found, unmapped}
use Rattle.session_model.specs.State.{State}
use Rattle.session_tables.specs.Tables.{AreStored}

-- a number that was not given is that of no object
not_given : (forest : Forest) → IsSound forest → row_of forest.rows (forest.last_number + 1) ≡ None
not_given forest sound = by (row_of forest.rows (forest.last_number + 1)) refl
  where
    by : (row : Option Row) → row_of forest.rows (forest.last_number + 1) ≡ row → row ≡ None
    by None is = refl
    by (Some row) is =
        let it = found (has_number (forest.last_number + 1)) forest.rows row is in
        let given : row.number ≤ forest.last_number = subst (λ (row : Row). row.number ≤ forest.last_number) (it.is row)
        (sound.numbers_given it.at row it.within) in
        let new : row.number ≡ forest.last_number + 1 = eqb-true _ _ it.passes in
        absurd (omega (arith, given, new))

-- so nothing is stored for it yet
pub nothing_stored : (state : State) → AreStored state → IsSound state.forest → properties_of state.store (state.forest.last_number + 1) ≡ None
nothing_stored state stored sound =
    unmapped (λ (of : Properties). of.object) (properties_of state.store (state.forest.last_number + 1))
    (sym (find_over_map (λ (of : Properties). of.object) (λ number. number == state.forest.last_number + 1) state.store)
    ∙ ap (find (λ number. number == state.forest.last_number + 1)) stored
    ∙ find_over_map (λ (row : Row). row.number) (λ number. number == state.forest.last_number + 1) state.forest.rows
    ∙ ap (option_map (λ (row : Row). row.number)) (not_given state.forest sound))
