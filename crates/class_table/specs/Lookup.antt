-- What a class declares, and what it has from its superclasses.
use Rattle.std.specs.Prelude.{◌==◌, ◌&&◌, ℕ, Bool, true, not, List, [], ◌∷◌, ◌++◌, Option, length, reverse, map, position, bytes_eq, if◌then◌else◌}
use Rattle.std.specs.List.{list_any}
use Rattle.std.specs.Option.{option_map_or}
use Rattle.std.specs.Cmp.Lexicographic.{pointwise}
use Rattle.signature_core.specs.declared.signature.Signature.{Signature}
use Rattle.signature_core.specs.Kinds.{is_same_kind}
use Rattle.signature_core.specs.Grammar.{normal_text}
use Rattle.class_table.specs.declared.class.Class.{Class}
use Rattle.class_table.specs.declared.class.Method.{Method}
use Rattle.class_table.specs.declared.class.Property.{Property}

-- Everything that the class at an index has, from what each class declares; that of the superclass comes first. The
-- classes are given with the last one first, and a superclass is declared earlier.
unfoldable pub gathered : {A : Type 0} → (ℕ → Class → List A) → List Class → ℕ → List A
gathered own [] index = []
gathered own (class ∷ earlier) index =
    if index == length earlier then option_map_or (λ base. gathered own earlier base) class.superclass [] ++ own index class else gathered own earlier index

-- Everything that the class at an index has. The classes are given in the order of the file.
abbrev pub of_class : {A : Type 0} → (ℕ → Class → List A) → List Class → ℕ → List A
of_class own classes index = gathered own (reverse classes) index

-- The class and its superclasses, by index, QObject first.
abbrev pub line : List Class → ℕ → List ℕ
line = of_class (λ index class. index ∷ [])

-- The methods of a class. A method's number is its index in this list.
abbrev pub methods : List Class → ℕ → List Method
methods = of_class (λ index class. class.methods)

-- The properties of a class. A property's number is its index in this list.
abbrev pub properties : List Class → ℕ → List Property
properties = of_class (λ index class. class.properties)

-- What the superclass, if there is one, gives to a class.
abbrev pub inherited : {A : Type 0} → (ℕ → List A) → Option ℕ → List A
inherited of_base base = option_map_or of_base base []

-- Whether two signatures have the same name and the same kinds.
abbrev pub is_same : Signature → Signature → Bool
is_same a b = bytes_eq a.name b.name && pointwise is_same_kind a.kinds b.kinds

-- The index of the class with this name.
abbrev pub index_of : List ℕ → List Class → Option ℕ
index_of name classes = position (λ class. bytes_eq name class.name) classes

-- The number of the method with this signature.
abbrev pub method_number : Signature → List Method → Option ℕ
method_number signature ms = position (λ method. is_same method.signature signature) ms

-- The number of the property with this name.
abbrev pub property_number : List ℕ → List Property → Option ℕ
property_number name ps = position (λ property. bytes_eq property.name name) ps

-- Whether a class is this one or below it.
abbrev pub inherits : List Class → ℕ → ℕ → Bool
inherits classes index base = list_any (λ at. at == base) (line classes index)

-- A signature's normal text.
abbrev pub text_of : Signature → List ℕ
text_of signature = normal_text signature.name signature.kinds

-- The text of a method's signature.
abbrev pub method_text : Method → List ℕ
method_text method = text_of method.signature

-- Whether no two elements of the list are equal.
abbrev pub is_distinct : {A : Type 0} → (A → A → Bool) → List A → Bool
is_distinct same [] = true
is_distinct same (x ∷ xs) = not (list_any (same x) xs) && is_distinct same xs

-- Whether the signatures are distinct.
abbrev pub are_distinct_methods : List Signature → Bool
are_distinct_methods = is_distinct is_same

abbrev pub are_distinct_properties : List (List ℕ) → Bool
are_distinct_properties = is_distinct bytes_eq

abbrev pub signatures : List Method → List Signature
signatures = map (λ method. method.signature)

abbrev pub names : List Property → List (List ℕ)
names = map (λ property. property.name)
