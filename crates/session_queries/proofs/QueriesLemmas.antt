-- What is told of a class that is there.
use Rattle.std.proofs.Common.{◌≡◌, ◌∷◌, [], ℕ, zero, suc, List, drop, length, map, Option, Some, None, slice_get, is_some, if◌then◌else◌, refl, sym, ap}
use Rattle.std.specs.Option.{option_and_then, unwrap_or}
use Rattle.plain_types.specs.declared.code.Code.{Code}
use Rattle.plain_types.specs.declared.code.Code.TheVariants.{NoSuchClass}
use Rattle.class_table.specs.declared.class.Class.{Class}
use Rattle.class_table.specs.Lookup.{inherited, method_text, methods, names, index_of, properties}
use Rattle.session_model.specs.Classes.{class_index, class_name, class_refusal}
use Rattle.session_model.proofs.ClassLemmas.{described_by}
use Rattle.session_model.proofs.ForCallers.{class_there}

-- whether a class is refused, by what was found
abbrev refused : Option ℕ → Option Code
refused found = if is_some found then None else Some NoSuchClass

-- a class that is not refused has its index
class_found : (classes : List Class) (name : List ℕ) → None ≡ class_refusal classes name → index_of name classes ≡ Some (class_index classes name)
class_found classes name passed = by (index_of name classes) passed
  where
    by : (found : Option ℕ) → None ≡ refused found → found ≡ Some (unwrap_or found 0)
    by (Some index) passed = refl
    by None passed = absurd (cc)

pub class_index_there : (classes : List Class) (name : List ℕ) → None ≡ class_refusal classes name
    → (class : Class) × (slice_get classes (class_index classes name) ≡ Some class)
class_index_there classes name passed = class_there classes name (class_index classes name) (class_found classes name passed)

-- what is told of a class, by its parts
pub described_is : (classes : List Class) (index : ℕ) (class : Class) (name : List ℕ) (method_offset : ℕ) (method_texts property_names : List (List ℕ))
    (property_offset : ℕ) (superclass : Option (List ℕ))
    → name ≡ class.name → method_offset ≡ length (inherited (methods classes) class.superclass) → method_texts ≡ map method_text (methods classes index)
    → property_names ≡ names (properties classes index) → property_offset ≡ length (inherited (properties classes) class.superclass)
    → superclass ≡ option_and_then (class_name classes) class.superclass
    → described_by classes index class ≡ record {
      class = name;
      method_offset = method_offset;
      methods = method_texts;
      properties = property_names;
      property_offset = property_offset;
      superclass = superclass;
    }
unfolding described_by
described_is classes index class name method_offset method_texts property_names property_offset superclass a b c d e f = cc

-- what is left of a list from an index on begins with what stands there
pub drop_at : {X : Type 0} (xs : List X) (n : ℕ) (x : X) → Some x ≡ slice_get xs n → drop n xs ≡ x ∷ drop (suc n) xs
drop_at [] zero x e = absurd (cc)
drop_at [] (suc n) x e = absurd (cc)
drop_at (y ∷ ys) zero x e = ap (λ first. first ∷ ys) (sym (ap (λ found. unwrap_or found x) e))
drop_at (y ∷ ys) (suc n) x e = drop_at ys n x e

pub some_none : {T : Type 0} (x : T) → Some x ≡ None → ⊥
some_none x e = cc
