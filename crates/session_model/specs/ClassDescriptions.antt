-- The description of a class: each part with the class that declares it.
use Rattle.std.specs.Prelude.{ℕ, Bool, true, false, not, List, [], Option, filter, map, option_and_then, option_map, slice_get}
use Rattle.std.specs.List.{flat_map}
use Rattle.std.specs.Option.{option_map_or, unwrap_or}
use Rattle.class_table.specs.declared.class.Class.{Class}
use Rattle.class_table.specs.declared.class.Method.{Method}
use Rattle.class_table.specs.declared.class.Property.{Property}
use Rattle.class_table.specs.Lookup.{line, method_text, methods}
use Rattle.session_model.specs.declared.descriptions.ClassDescription.{ClassDescription}
use Rattle.session_model.specs.declared.descriptions.DeclaredMethod.{DeclaredMethod}
use Rattle.session_model.specs.declared.descriptions.DeclaredProperty.{DeclaredProperty}
use Rattle.session_model.specs.Classes.{class_name, superclass_of}

-- The text of the NOTIFY signal with this number, if there is one.
abbrev pub notify_text : List Class → ℕ → Option ℕ → Option (List ℕ)
notify_text classes index notify = option_and_then (λ number. option_map method_text (slice_get (methods classes index) number)) notify

-- A property as a class at this index has it, with the class that declares it.
abbrev pub declared_property : List Class → ℕ → List ℕ → Property → DeclaredProperty
declared_property classes index class property = record {
  bindable = property.bindable;
  class = class;
  kind = property.kind;
  name = property.name;
  notify = notify_text classes index property.notify;
}

abbrev pub own_properties : List Class → ℕ → List DeclaredProperty
own_properties classes index = option_map_or (λ class. map (declared_property classes index class.name) class.properties) (slice_get classes index) []

abbrev pub declared_method : List ℕ → Method → DeclaredMethod
declared_method class method = record { class = class; kinds = method.signature.kinds; signature = method_text method }

-- Whether a method is of the wanted sort, a signal or a slot.
abbrev pub is_wanted : Bool → Method → Bool
is_wanted true method = method.is_signal
is_wanted false method = not method.is_signal

abbrev pub own_methods : List Class → Bool → ℕ → List DeclaredMethod
own_methods classes signals index =
    option_map_or (λ class. map (declared_method class.name) (filter (is_wanted signals) class.methods)) (slice_get classes index) []

-- The class at an index. What it has from its superclasses comes first.
abbrev pub class_description : List Class → ℕ → ClassDescription
class_description classes index = record {
  class = unwrap_or (class_name classes index) [];
  properties = flat_map (own_properties classes) (line classes index);
  signals = flat_map (own_methods classes true) (line classes index);
  slots = flat_map (own_methods classes false) (line classes index);
  superclass = option_and_then (class_name classes) (superclass_of classes index);
}
