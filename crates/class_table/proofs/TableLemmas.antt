-- What the classes of a table have.
use Rattle.std.proofs.Common.{◌≡◌, ◌⊎◌, inl, inr, ℕ, zero, suc, ◌+◌, ◌<◌, ◌≤◌, Bool, List, [], ◌∷◌, ◌++◌, length, reverse, slice_get, Option, Some, None, true}
use Rattle.std.proofs.Common.{IfSome, IsTrue, codes, is_some, refl, sym, ap, ◌∙◌, subst, arith, length-append, position, bytes_eq}
use Rattle.std.specs.List.{All}
use Rattle.std.specs.Option.{option_map, option_map_or, option_or, ForSome}
use Rattle.std.proofs.lemmas.List.{reverse-append, length-reverse}
use Rattle.std.proofs.lemmas.List.Elements.{All-nil, All-cons}
use Rattle.signature_core.specs.declared.kind.Kind.{Kind}
use Rattle.signature_core.specs.declared.kind.Kind.TheVariants as kind
use Rattle.class_table.specs.declared.class.Class.{Class}
use Rattle.class_table.specs.declared.class.Method.{Method}
use Rattle.class_table.specs.declared.class.Property.{Property}
use Rattle.class_table.specs.declared.class.TheConstants.{CLASSES}
use Rattle.class_table.specs.Lookup.{gathered, of_class, inherited, methods, properties, property_number}
use Rattle.class_table.specs.Declaring.{delete_later_body, q_object, signal_of, slot_of}
use Rattle.class_table.specs.Sound.{IsMethod, is_told, is_told_by, IsClassAt, FitsBehind, IsTable}
use Rattle.class_table.proofs.ListLemmas.{eq_self, eq_other, position-seam}

module _ {A : Type 0} (own : ℕ → Class → List A) where
  -- a further class leaves those before it as they were
  pub gathered-earlier : (class : Class) (earlier : List Class) (index : ℕ) → index < length earlier
      → gathered own (class ∷ earlier) index ≡ gathered own earlier index
  unfolding gathered
  gathered-earlier class earlier index h = rw (eq_other index (length earlier) (λ e. omega arith))

  pub gathered-new : (class : Class) (earlier : List Class) → gathered own (class ∷ earlier) (length earlier)
      ≡ option_map_or (λ base. gathered own earlier base) class.superclass [] ++ own (length earlier) class
  unfolding gathered
  gathered-new class earlier = rw (eq_self (length earlier))

  -- no class, nothing
  pub gathered-none : (classes : List Class) (index : ℕ) → length classes ≤ index → gathered own classes index ≡ []
  unfolding gathered
  gathered-none [] index h = refl
  gathered-none (class ∷ earlier) index h = rw (eq_other index (length earlier) (λ e. omega arith)) (gathered-none earlier index (omega arith))

module _ {A : Type 0} (own : ℕ → Class → List A) (classes : List Class) (class : Class) where
  turned : reverse (classes ++ class ∷ []) ≡ class ∷ reverse classes
  turned = reverse-append classes (class ∷ [])

  -- the same in the order of the file
  pub of_class-earlier : (index : ℕ) → index < length classes → of_class own (classes ++ class ∷ []) index ≡ of_class own classes index
  of_class-earlier index h =
      let short : index < length (reverse classes) = omega (arith, length-reverse classes) in
      rw turned (gathered-earlier own class (reverse classes) index short)

  pub of_class-new : of_class own (classes ++ class ∷ []) (length classes) ≡ inherited (of_class own classes) class.superclass ++ own (length classes) class
  of_class-new =
      let long = length-reverse classes in
      (λ i. gathered own (turned i) (sym long i))
      ∙ (gathered-new own class (reverse classes) ∙ λ i. inherited (of_class own classes) class.superclass ++ own (long i) class)

  pub inherited-earlier : (base : Option ℕ) → ForSome base (λ b. b < length classes)
      → inherited (of_class own (classes ++ class ∷ [])) base ≡ inherited (of_class own classes) base
  inherited-earlier None h = refl
  inherited-earlier (Some b) h = of_class-earlier b (h b refl)

pub of_class-none : {A : Type 0} (own : ℕ → Class → List A) (classes : List Class) (index : ℕ) → length classes ≤ index → of_class own classes index ≡ []
of_class-none own classes index h = gathered-none own (reverse classes) index (omega (arith, length-reverse classes))

-- a class that was there keeps what it has
kept : (classes : List Class) (new : Class) (index : ℕ) (class : Class) → index < length classes → IsClassAt classes index class
    → IsClassAt (classes ++ new ∷ []) index class
kept classes new index class h is =
    let below : ForSome class.superclass (λ b. b < length classes) = λ b e. (let near : b < index = is.base_is_earlier b e in omega arith) in
    let same_line = inherited-earlier (λ at c. at ∷ []) classes new class.superclass below in
    let same_methods = inherited-earlier (λ at c. c.methods) classes new class.superclass below in
    let same_properties = inherited-earlier (λ at c. c.properties) classes new class.superclass below in
    record {
      base_is_earlier = is.base_is_earlier;
      its_line = rw (of_class-earlier (λ at c. at ∷ []) classes new index h, same_line) is.its_line;
      its_methods = rw (of_class-earlier (λ at c. c.methods) classes new index h, same_methods) is.its_methods;
      its_properties = rw (of_class-earlier (λ at c. c.properties) classes new index h, same_properties) is.its_properties;
      method_offset = rw same_methods is.method_offset;
      property_offset = rw same_properties is.property_offset;
      few_methods = rw same_methods is.few_methods;
      few_properties = rw same_properties is.few_properties;
      methods_once = rw same_methods is.methods_once;
      properties_once = rw same_properties is.properties_once;
      each_method = is.each_method;
      each_property = rw same_methods is.each_property;
    }

-- the new class has what it is to have
joined : (classes : List Class) (new : Class) → FitsBehind classes new → IsClassAt (classes ++ new ∷ []) (length classes) new
joined classes new fits =
    let same_line = inherited-earlier (λ at c. at ∷ []) classes new new.superclass fits.base_is_there in
    let same_methods = inherited-earlier (λ at c. c.methods) classes new new.superclass fits.base_is_there in
    let same_properties = inherited-earlier (λ at c. c.properties) classes new new.superclass fits.base_is_there in
    record {
      base_is_earlier = fits.base_is_there;
      its_line = rw same_line (of_class-new (λ at c. at ∷ []) classes new);
      its_methods = rw same_methods (of_class-new (λ at c. c.methods) classes new);
      its_properties = rw same_properties (of_class-new (λ at c. c.properties) classes new);
      method_offset = rw same_methods fits.method_offset;
      property_offset = rw same_properties fits.property_offset;
      few_methods = rw same_methods fits.few_methods;
      few_properties = rw same_properties fits.few_properties;
      methods_once = rw same_methods fits.methods_once;
      properties_once = rw same_properties fits.properties_once;
      each_method = fits.each_method;
      each_property = rw same_methods fits.each_property;
    }

-- a index in a longer list
seam : {X : Type 0} (xs : List X) (y : X) (k : ℕ) (x : X) → slice_get (xs ++ y ∷ []) k ≡ Some x
    → ((k < length xs) × (slice_get xs k ≡ Some x)) ⊎ ((k ≡ length xs) × (y ≡ x))
seam [] y zero x e = inr (refl, (cc))
seam [] y (suc k) x e = absurd (cc)
seam (z ∷ zs) y zero x e = inl (omega arith, e)
seam (z ∷ zs) y (suc k) x e = elim (seam zs y k x e) [ inl p ↦ inl (omega arith, p.1) | inr p ↦ inr (ap suc p.0, p.1) ]

-- a table with a further class
pub IsTable-push : (classes : List Class) (new : Class) → IsTable classes → length classes ≤ CLASSES → FitsBehind classes new → IsTable (classes ++ new ∷ [])
IsTable-push classes new table room fits = record {
  few = omega (arith, length-append classes (new ∷ []));
  first = still classes table.first;
  below = λ index. below index (slice_get (classes ++ new ∷ []) (suc index)) refl;
  each = λ index class e. by index class (seam classes new index class e);
}
  where
    still : (classes : List Class) → slice_get classes 0 ≡ Some q_object → slice_get (classes ++ new ∷ []) 0 ≡ Some q_object
    still [] e = absurd (cc)
    still (class ∷ rest) e = e

    based : (index : ℕ) (class : Class) → ((suc index < length classes) × (slice_get classes (suc index) ≡ Some class))
        ⊎ ((suc index ≡ length classes) × (new ≡ class)) → IsTrue (is_some class.superclass)
    based index class (inl p) = subst (λ found. IfSome found (λ (class : Class). IsTrue (is_some class.superclass))) p.1 (table.below index)
    based index class (inr p) = subst (λ (class : Class). IsTrue (is_some class.superclass)) p.1 fits.below

    below : (index : ℕ) (found : Option Class) → slice_get (classes ++ new ∷ []) (suc index) ≡ found → IfSome found (λ class. IsTrue (is_some class.superclass))
    below index None e = tt
    below index (Some class) e = based index class (seam classes new (suc index) class e)

    by : (index : ℕ) (class : Class) → ((index < length classes) × (slice_get classes index ≡ Some class)) ⊎ ((index ≡ length classes) × (new ≡ class))
        → IsClassAt (classes ++ new ∷ []) index class
    by index class (inl p) = kept classes new index class p.0 (table.each index class p.1)
    by index class (inr p) =
        let P : ℕ → Type 0 = λ k. IsClassAt (classes ++ new ∷ []) k class in
        let Q : Class → Type 0 = λ c. IsClassAt (classes ++ new ∷ []) (length classes) c in
        subst P (sym p.0) (subst Q p.1 (joined classes new fits))

-- the table of `QObject` alone

quiet : (name : List ℕ) (kinds : List Kind) → IsMethod (signal_of (record { name = name; kinds = kinds }))
quiet name kinds = record { text = refl; params = refl; body = record { limited = refl; arguments = tt; named = refl } }

posts : IsMethod (slot_of (record { name = codes "deleteLater"; kinds = [] }) delete_later_body)
posts = record { text = refl; params = refl; body = record { limited = refl; arguments = (tt, tt); named = refl } }

three : (a b c : Method) → IsMethod a → IsMethod b → IsMethod c → All IsMethod (a ∷ b ∷ c ∷ [])
three a b c first second third = All-cons IsMethod a (b ∷ c ∷ []) first (All-cons IsMethod b (c ∷ []) second (All-cons IsMethod c [] third (All-nil IsMethod)))

one : (P : Property → Type 0) (property : Property) → P property → All P (property ∷ [])
one P property h = All-cons P property [] h (All-nil P)

first_class : IsClassAt (q_object ∷ []) 0 q_object
first_class = record {
  base_is_earlier = λ b e. absurd (cc);
  its_line = of_class-new (λ at c. at ∷ []) [] q_object;
  its_methods = of_class-new (λ at c. c.methods) [] q_object;
  its_properties = of_class-new (λ at c. c.properties) [] q_object;
  method_offset = refl;
  property_offset = refl;
  few_methods = omega arith;
  few_properties = omega arith;
  methods_once = refl;
  properties_once = refl;
  each_method = three _ _ _ (quiet (codes "destroyed") []) (quiet (codes "objectNameChanged") (kind.Text ∷ [])) posts;
  each_property = one (λ property. IsTrue (is_told q_object.methods property))
      (record { name = codes "objectName"; kind = kind.Text; notify = Some 1; bindable = true }) refl;
}

pub first_table : IsTable (q_object ∷ [])
first_table = record { few = omega arith; first = refl; below = λ index. tt; each = at }
  where
    at : (index : ℕ) (class : Class) → slice_get (q_object ∷ []) index ≡ Some class → IsClassAt (q_object ∷ []) index class
    at zero class e =
        let is : q_object ≡ class = cc in
        let P : Class → Type 0 = λ c. IsClassAt (q_object ∷ []) 0 c in
        subst P is first_class
    at (suc index) class e = absurd (cc)

-- a property's signal, where more methods stand behind
pub told_behind : (methods more : List Method) (property : Property) → IsTrue (is_told methods property) → IsTrue (is_told (methods ++ more) property)
told_behind methods more property h = by property.notify h
  where
    at : (methods : List Method) (number : ℕ) → IsTrue (is_told_by methods property.kind number) → IsTrue (is_told_by (methods ++ more) property.kind number)
    at [] number h = absurd (cc)
    at (method ∷ rest) zero h = h
    at (method ∷ rest) (suc number) h = at rest number h

    by : (notify : Option ℕ) → IsTrue (option_map_or (is_told_by methods property.kind) notify true)
        → IsTrue (option_map_or (is_told_by (methods ++ more) property.kind) notify true)
    by None h = h
    by (Some number) h = at methods number h

-- a step up from a class to its superclass, in the search for a property
pub property-step : (classes : List Class) (index : ℕ) (class : Class) → IsClassAt classes index class → (name : List ℕ) (found : Option ℕ)
    → option_or (property_number name (inherited (properties classes) class.superclass))
    (option_or (option_map (λ i. class.property_offset + i) (property_number name class.properties)) found)
    ≡ option_or (property_number name (properties classes index)) found
property-step classes index class has name found =
    let p : Property → Bool = λ property. bytes_eq property.name name in
    let base = inherited (properties classes) class.superclass in
    (λ i. option_or (position p base) (option_or (option_map (λ k. has.property_offset i + k) (position p class.properties)) found))
    ∙ (sym (position-seam p base class.properties found) ∙ λ i. option_or (position p (sym has.its_properties i)) found)
