-- Rows of what properties show, inserted among others. No public clause cites this module.
use Rattle.std.specs.Prelude.{◌≡◌, ◌&&◌, ◌||◌, ◌++◌, if◌then◌else◌, List, ◌∷◌, None, Some, filter, not}
use Rattle.std.specs.Option.{is_some, option_map_or}
use Rattle.property_store.specs.declared.property.Property.{Property}
use Rattle.property_store.specs.Property.{among, is_property}
use Rattle.property_store.specs.Store.{Store}
use Rattle.binding_values.specs.declared.binding.Binding.{Binding}
use Rattle.binding_values.specs.Sorted.{is_before}
use Rattle.binding_values.specs.declared.shown.Shown.{Shown}
use Rattle.binding_values.specs.Graph.{shown_at, shown_now}

-- The rows with another one, which replaces that of the same property.
abbrev pub with_shown : Shown → List Shown → List Shown
with_shown new rows = filter (λ shown. is_before shown.at new.at) rows ++ new ∷ filter (λ shown. is_before new.at shown.at) rows

-- A row was inserted, and replaces that of its property.
abbrev pub IsPut : Shown → List Shown → List Shown → Type 0
IsPut row old new = (q : Property) → shown_at new q ≡ (if is_property q row.at then Some row else shown_at old q)

-- Rows replaced those of their properties, and a touched property without a row shows nothing.
abbrev pub AreMerged : List Property → List Shown → List Shown → List Shown → Type 0
AreMerged touched rows old new = (q : Property) → shown_at new q ≡ option_map_or Some (shown_at rows q) (if among q touched then None else shown_at old q)

-- The touched properties that do not exist were appended.
abbrev pub AreAbsent : Store → List Binding → List Property → List Property → List Property → Type 0
AreAbsent store bindings touched old new =
    (q : Property) → among q new ≡ (among q old || (among q touched && not (is_some (shown_now store bindings q))))

-- Rows replaced those of their properties, and then these properties show nothing.
abbrev pub AreReplaced : List Property → List Shown → List Shown → List Shown → Type 0
AreReplaced gone rows old new = (q : Property) → shown_at new q ≡ (if among q gone then None else option_map_or Some (shown_at rows q) (shown_at old q))
