-- The descriptions of the properties of an object.
use Rattle.std.specs.Prelude.{ℕ, suc, false, List, [], ◌∷◌, ◌++◌, Some, None, map}
use Rattle.std.specs.Option.{unwrap_or}
use Rattle.binding_values.specs.Graph.{is_bound}
use Rattle.class_table.specs.declared.class.Property.{Property}
use Rattle.class_table.specs.Lookup.{properties}
use Rattle.object_tree.specs.declared.row.Row.{Row}
use Rattle.property_store.specs.Store.{dynamic_names}
use Rattle.variant_value.specs.declared.value.Value.TheVariants.{Invalid}
use Rattle.session_model.specs.declared.descriptions.PropertyDescription.{PropertyDescription}
use Rattle.session_model.specs.Settings.{Settings}
use Rattle.session_model.specs.Showing.{named_value}
use Rattle.session_model.specs.State.{State, shown}
use Rattle.session_model.specs.ClassDescriptions.{notify_text}

-- The description of the property with this number that an object's class declares.
abbrev pub declared_description : Settings → State → Row → ℕ → Property → PropertyDescription
declared_description settings state row number property = record {
  bindable = property.bindable;
  bound = is_bound state.graph.bindings (record { object = row.number; number = number });
  error = (shown state row.number number).1;
  kind = Some property.kind;
  name = property.name;
  notify = notify_text settings.classes row.class property.notify;
  value = (shown state row.number number).0;
}

-- The descriptions of these properties. The first of them has this number.
abbrev pub descriptions_from : Settings → State → Row → ℕ → List Property → List PropertyDescription
descriptions_from settings state row number [] = []
descriptions_from settings state row number (property ∷ rest) =
    declared_description settings state row number property ∷ descriptions_from settings state row (suc number) rest

-- The description of a dynamic property, with the value that `get` answers.
abbrev pub dynamic_description : State → ℕ → List ℕ → PropertyDescription
dynamic_description state object name = record {
  bindable = false;
  bound = false;
  error = None;
  kind = None;
  name = name;
  notify = None;
  value = unwrap_or (named_value state object name) Invalid;
}

-- The descriptions of an object's declared properties, and then of its dynamic ones.
abbrev pub property_descriptions : Settings → State → Row → List PropertyDescription
property_descriptions settings state row =
    descriptions_from settings state row 0 (properties settings.classes row.class)
    ++ map (dynamic_description state row.number) (dynamic_names state.store row.number)
