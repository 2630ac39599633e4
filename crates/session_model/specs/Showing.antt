-- The values that properties show, and the announcements of their changes.
use Rattle.std.specs.Prelude.{ℕ, List, [], ◌∷◌, length, take, slice_get, Option, Some, option_and_then, option_map, if◌then◌else◌}
use Rattle.std.specs.List.{filter_map}
use Rattle.std.specs.Option.{option_map_or}
use Rattle.variant_value.specs.declared.value.Value.{Value}
use Rattle.binding_values.specs.declared.change.Change.{Change}
use Rattle.binding_values.specs.declared.change.ChangeKind.{ChangeKind}
use Rattle.binding_values.specs.declared.change.ChangeKind.TheVariants as message
use Rattle.property_store.specs.declared.property.Property.{Property as At}
use Rattle.binding_values.specs.declared.shown.Shown.{Shown}
use Rattle.binding_values.specs.Graph as graph
use Rattle.binding_values.specs.Graph.{all_shown, is_open}
use Rattle.class_table.specs.declared.class.Property.{Property}
use Rattle.class_table.specs.Lookup.{properties}
use Rattle.object_tree.specs.Rows.{row_of}
use Rattle.property_store.specs.Store.{dynamic_value, field_number, properties_of}
use Rattle.session_model.specs.Execution.{Execution, in_state}
use Rattle.session_model.specs.Items.{Emit, Item, Next, WarnOf, puts}
use Rattle.session_model.specs.Methods.{kinds_at, methods_of}
use Rattle.session_model.specs.Settings.{Settings}
use Rattle.session_model.specs.State.{State, shown}

-- The value of the property with this name: the value that a declared property shows, or that a dynamic one was set to.
abbrev pub named_value : State → ℕ → List ℕ → Option Value
named_value state object name =
    option_and_then (λ of. option_map_or (λ number. Some (shown state object number).0) (field_number name of.fields) (dynamic_value name of.dynamic))
    (properties_of state.store object)

-- The values that all declared properties show.
abbrev pub showing : State → List Shown
showing state = all_shown state.store state.graph.bindings

-- The changes between two states: first the new or different errors, then the different values, in both cases the
-- written property first. There are none while a group is open.
abbrev pub changes : State → State → Option At → List Change
changes before after written = if is_open after.graph then [] else graph.changes (showing before) (showing after) written

-- The property of an object, as its class declares it.
abbrev pub property_at : Settings → State → ℕ → ℕ → Option Property
property_at settings state object number = option_and_then (λ row. slice_get (properties settings.classes row.class) number) (row_of state.forest.rows object)

-- The arguments of a NOTIFY signal: the new value, if the signal has a parameter.
abbrev pub told_value : Settings → State → ℕ → Value → ℕ → List Value
told_value settings state object value signal = take (length (kinds_at (methods_of settings state object) signal)) (value ∷ [])

-- The item for a change: a warning of an error, or the property's NOTIFY signal for a value, if it has one.
abbrev pub told_as : Settings → State → ℕ → At → ChangeKind → Option Item
told_as settings state depth at (message.Error error) = Some (WarnOf at error)
told_as settings state depth at (message.Value value) =
    option_map (λ signal. Emit at.object signal (told_value settings state at.object value signal) depth)
    (option_and_then (λ property. property.notify) (property_at settings state at.object at.number))

-- The items that announce changes, in their order.
abbrev pub tellings : Settings → State → ℕ → List Change → List Item
tellings settings state depth changes = filter_map (λ change. told_as settings state depth change.at change.told) changes

-- The session gets another state, and announces what has changed.
abbrev pub comes_to : Settings → Execution → ℕ → State → Option At → Next
comes_to settings doing depth after written = puts (tellings settings after depth (changes doing.state after written)) (in_state doing after)
