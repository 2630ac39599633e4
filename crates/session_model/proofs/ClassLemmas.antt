-- What is said of a class that is there.
use Rattle.std.proofs.Common.{◌≡◌, ℕ, List, [], ◌∷◌, length, map, get_or, Option, Some, slice_get, bytes_eq, ap}
use Rattle.std.specs.Option.{option_and_then, option_map, unwrap_or}
use Rattle.std.proofs.lemmas.List.Quantifiers.{position-Some}
use Rattle.std.proofs.lemmas.Option.{slice_get-get_or}
use Rattle.session_model.proofs.Common.{Class, methods, properties}
use Rattle.class_table.specs.Lookup.{inherited, method_text, names, index_of}
use Rattle.session_model.specs.declared.meta.MetaObject.{MetaObject}
use Rattle.session_model.specs.Classes.{class_name, described}

-- what is told of a class, by its row
unfoldable pub described_by : List Class → ℕ → Class → MetaObject
described_by classes index class = record {
  class = class.name;
  method_offset = length (inherited (methods classes) class.superclass);
  methods = map method_text (methods classes index);
  properties = names (properties classes index);
  property_offset = length (inherited (properties classes) class.superclass);
  superclass = option_and_then (class_name classes) class.superclass;
}

pub described_at : (classes : List Class) (index : ℕ) (class : Class) → slice_get classes index ≡ Some class
    → described classes index ≡ described_by classes index class
unfolding described_by
described_at classes index class there = ap by there
  where
    by : Option Class → MetaObject
    by row = let base = option_and_then (λ (class : Class). class.superclass) row in record {
      class = unwrap_or (option_map (λ (class : Class). class.name) row) [];
      method_offset = length (inherited (methods classes) base);
      methods = map method_text (methods classes index);
      properties = names (properties classes index);
      property_offset = length (inherited (properties classes) base);
      superclass = option_and_then (class_name classes) base;
    }

-- a class that has an index is there
pub class_there : (classes : List Class) (name : List ℕ) (index : ℕ) → index_of name classes ≡ Some index
    → (class : Class) × (slice_get classes index ≡ Some class)
class_there [] name index found = absurd (cc)
class_there (first ∷ rest) name index found =
    let classes = first ∷ rest in
    (get_or classes index first, slice_get-get_or classes index first (position-Some (λ (class : Class). bytes_eq name class.name) classes index first found).0)
