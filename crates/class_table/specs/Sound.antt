-- What holds for every table of classes.
use Rattle.std.specs.Prelude.{◌≡◌, ◌<◌, ◌≤◌, ◌+◌, ◌&&◌, ℕ, suc, Bool, true, false, List, [], ◌∷◌, ◌++◌, Some, None, IfSome, IsTrue, is_some, slice_get, length}
use Rattle.std.specs.List.{All}
use Rattle.std.specs.Option.{option_map_or, ForSome}
use Rattle.signature_core.specs.declared.kind.Kind.{Kind}
use Rattle.term_core.specs.Bodies.{IsBody}
use Rattle.class_table.specs.declared.class.TheConstants.{CLASSES, METHODS, PROPERTIES}
use Rattle.class_table.specs.declared.class.Class.{Class}
use Rattle.class_table.specs.declared.class.Method.{Method}
use Rattle.class_table.specs.declared.class.Property.{Property}
use Rattle.class_table.specs.Declaring.{q_object, tells}
use Rattle.class_table.specs.Lookup.{are_distinct_methods, are_distinct_properties, inherited, line}
use Rattle.class_table.specs.Lookup.{method_text, methods, names, index_of, properties, signatures}

-- A method has the text of its signature. Its body keeps to the limits, takes no argument but the method's parameters,
-- and sets only properties with valid names.
pub record IsMethod (method : Method) : Type 0 where
  pub text : method.text ≡ method_text method
  pub params : method.body.params ≡ length method.signature.kinds
  pub body : IsBody method.body

-- Whether the method with this number is a signal without parameters, or with one of this kind.
abbrev pub is_told_by : List Method → Kind → ℕ → Bool
is_told_by methods kind number = option_map_or (λ method. method.is_signal && tells kind method.signature.kinds) (slice_get methods number) false

-- Whether the NOTIFY signal of a property, if it has one, is such a signal.
abbrev pub is_told : List Method → Property → Bool
is_told methods property = option_map_or (is_told_by methods property.kind) property.notify true

-- A class of a table has what its superclass has, and then its own.
pub record IsClassAt (classes : List Class) (index : ℕ) (class : Class) : Type 0 where
  pub base_is_earlier : ForSome class.superclass (λ base. base < index)
  pub its_line : line classes index ≡ inherited (line classes) class.superclass ++ index ∷ []
  pub its_methods : methods classes index ≡ inherited (methods classes) class.superclass ++ class.methods
  pub its_properties : properties classes index ≡ inherited (properties classes) class.superclass ++ class.properties
  pub method_offset : class.method_offset ≡ length (inherited (methods classes) class.superclass)
  pub property_offset : class.property_offset ≡ length (inherited (properties classes) class.superclass)
  pub few_methods : length (inherited (methods classes) class.superclass ++ class.methods) ≤ METHODS
  pub few_properties : length (inherited (properties classes) class.superclass ++ class.properties) ≤ PROPERTIES
  pub methods_once : IsTrue (are_distinct_methods (signatures (inherited (methods classes) class.superclass ++ class.methods)))
  pub properties_once : IsTrue (are_distinct_properties (names (inherited (properties classes) class.superclass ++ class.properties)))
  pub each_method : All IsMethod class.methods
  pub each_property : All (λ property. IsTrue (is_told (inherited (methods classes) class.superclass ++ class.methods) property)) class.properties

-- A new class fits after these classes: its superclass is one of them, its offsets are right, nothing is declared twice,
-- there is not too much, and its methods and properties are sound.
pub record FitsBehind (classes : List Class) (class : Class) : Type 0 where
  pub is_new : index_of class.name classes ≡ None
  pub below : IsTrue (is_some class.superclass)
  pub base_is_there : ForSome class.superclass (λ base. base < length classes)
  pub method_offset : class.method_offset ≡ length (inherited (methods classes) class.superclass)
  pub property_offset : class.property_offset ≡ length (inherited (properties classes) class.superclass)
  pub few_methods : length (inherited (methods classes) class.superclass ++ class.methods) ≤ METHODS
  pub few_properties : length (inherited (properties classes) class.superclass ++ class.properties) ≤ PROPERTIES
  pub methods_once : IsTrue (are_distinct_methods (signatures (inherited (methods classes) class.superclass ++ class.methods)))
  pub properties_once : IsTrue (are_distinct_properties (names (inherited (properties classes) class.superclass ++ class.properties)))
  pub each_method : All IsMethod class.methods
  pub each_property : All (λ property. IsTrue (is_told (inherited (methods classes) class.superclass ++ class.methods) property)) class.properties

-- The classes of a table: `QObject`, and then those of the file in order.
pub record IsTable (classes : List Class) : Type 0 where
  pub few : length classes ≤ CLASSES + 1
  pub first : slice_get classes 0 ≡ Some q_object
  -- Each class except the first has a superclass.
  pub below : (index : ℕ) → IfSome (slice_get classes (suc index)) (λ class. IsTrue (is_some class.superclass))
  pub each : (index : ℕ) (class : Class) → slice_get classes index ≡ Some class → IsClassAt classes index class
