-- The classes that commands name, and their descriptions.
use Rattle.std.specs.Prelude.{ℕ, List, [], Option, Some, None, is_some, length, map, option_map, option_and_then, slice_get, if◌then◌else◌}
use Rattle.std.specs.Option.{option_map_or, unwrap_or}
use Rattle.plain_types.specs.declared.code.Code.{Code}
use Rattle.plain_types.specs.declared.code.Code.TheVariants.{NoSuchClass}
use Rattle.class_table.specs.declared.class.Class.{Class}
use Rattle.class_table.specs.Lookup.{inherited, method_text, methods, names, index_of, properties}
use Rattle.session_model.specs.declared.meta.MetaObject.{MetaObject}

-- The refusal if no class has this name.
abbrev pub class_refusal : List Class → List ℕ → Option Code
class_refusal classes class = if is_some (index_of class classes) then None else Some NoSuchClass

-- The refusal if a class is named and no class has this name.
abbrev pub named_class_refusal : List Class → Option (List ℕ) → Option Code
named_class_refusal classes class = option_map_or (class_refusal classes) class None

-- The index of the class with this name; 0 if there is none, which every command refuses before.
abbrev pub class_index : List Class → List ℕ → ℕ
class_index classes name = unwrap_or (index_of name classes) 0

-- The name of the class at an index.
abbrev pub class_name : List Class → ℕ → Option (List ℕ)
class_name classes index = option_map (λ class. class.name) (slice_get classes index)

-- The index of the superclass, if there is one.
abbrev pub superclass_of : List Class → ℕ → Option ℕ
superclass_of classes index = option_and_then (λ class. class.superclass) (slice_get classes index)

-- The meta-object of the class at an index. What it has from its superclasses comes first.
abbrev pub described : List Class → ℕ → MetaObject
described classes index = let base = superclass_of classes index in record {
  class = unwrap_or (class_name classes index) [];
  method_offset = length (inherited (methods classes) base);
  methods = map method_text (methods classes index);
  properties = names (properties classes index);
  property_offset = length (inherited (properties classes) base);
  superclass = option_and_then (class_name classes) base;
}
