-- What all properties show stands in order, and is of their kinds.
use Rattle.std.proofs.Common.{◌≡◌, ◌∙◌, ℕ, zero, suc, ◌<◌, ◌≤◌, ◌==◌, ◌&&◌, ◌||◌, nat_lt, Bool, true, false, cond, List, [], ◌∷◌, ◌++◌, Option, Some, None, All}
use Rattle.std.proofs.Common.{filter_map, length, get_or, option_map, take, drop, append-nil, append_assoc, refl, sym, ap, subst, arith}
use Rattle.std.specs.List.{AllPairs, flat_map}
use Rattle.std.specs.Option.{option_map_or}
use Rattle.std.proofs.lemmas.Bool.Decides.{nat_tests}
use Rattle.std.proofs.lemmas.List.Elements.{All-append, All-cons, All-nil, filter_map-append}
use Rattle.std.proofs.lemmas.List.Kept.{AllPairs-cons}
use Rattle.variant_value.specs.declared.value.Value.{Value}
use Rattle.variant_value.specs.declared.value.Value.TheVariants.{Invalid}
use Rattle.variant_value.specs.Values.{IsOfKind, IsShort}
use Rattle.property_store.specs.declared.field.Field.{Field}
use Rattle.property_store.specs.Store.{IsSound, Properties, Store}
use Rattle.property_store.proofs.ForCallers.{default_short, found}
use Rattle.binding_values.specs.declared.binding.Binding.{Binding}
use Rattle.binding_values.specs.declared.property.BindingError.{BindingError}
use Rattle.property_store.specs.declared.property.Property.{Property}
use Rattle.binding_values.specs.declared.shown.Shown.{Shown}
use Rattle.binding_values.specs.Graph.{AreShown, Graph, all_shown, fresh, is_bound, is_open, shown_at, shown_in, shown_now, value_in}
use Rattle.binding_values.specs.Binds.{AreBindings}
use Rattle.binding_values.specs.Graph as graph
use Rattle.binding_values.specs.Scene.{Cell}
use Rattle.property_store.specs.Property.{is_property}
use Rattle.binding_values.specs.Sorted.{is_before}
use Rattle.binding_values.specs.Stored.{cell_in, numbered, properties_in, properties_of_object}
use Rattle.binding_values.proofs.FitLemmas.{shown_now_fits}
use Rattle.binding_values.proofs.MapLemmas.{all_given, pairs_append, pairs_given}

before_later : (a b c d : ℕ) → a < c → (nat_lt a c || (a == c && nat_lt b d)) ≡ true
before_later a b c d less = grind (arith, nat_tests)

before_next : (a b c d : ℕ) → c ≡ a → b < d → (nat_lt a c || (a == c && nat_lt b d)) ≡ true
before_next a b c d same less = grind (arith, nat_tests)

-- the properties of an object from a number on
record IsFrom (object number : ℕ) (p : Property) : Type 0 where
  object_is : p.object ≡ object
  from : number ≤ p.number

numbered_from : (object number : ℕ) (fields : List Field) → All (IsFrom object number) (numbered object number fields)
numbered_from object number [] = All-nil (IsFrom object number)
numbered_from object number (field ∷ fields) =
    All-cons (IsFrom object number) (record { object = object; number = number }) (numbered object (suc number) fields)
    (record { object_is = refl; from = omega arith })
    (λ k d lt. let later = numbered_from object (suc number) fields k d lt in record { object_is = later.object_is; from = omega (arith, later.from) })

numbered_rising : (object number : ℕ) (fields : List Field) → AllPairs (λ (p : Property) (q : Property). is_before p q ≡ true) (numbered object number fields)
numbered_rising object number [] = λ i j d lt within. absurd (omega arith)
numbered_rising object number (field ∷ fields) =
    AllPairs-cons (λ (p : Property) (q : Property). is_before p q ≡ true) (record { object = object; number = number }) (numbered object (suc number) fields)
    (λ k d lt. let later = numbered_from object (suc number) fields k d lt in before_next object number
    (get_or (numbered object (suc number) fields) k d).object (get_or (numbered object (suc number) fields) k d).number later.object_is
    (omega (arith, later.from)))
    (numbered_rising object (suc number) fields)

all_above : (n : ℕ) (store : Store) → All (λ (of : Properties). n < of.object) store → All (λ (p : Property). n < p.object) (properties_in store)
all_above n [] all = All-nil (λ (p : Property). n < p.object)
all_above n (of ∷ store) all =
    All-append (λ (p : Property). n < p.object) (properties_of_object of) (properties_in store)
    (λ k d lt. let it = numbered_from of.object 0 of.fields k d lt in let above : n < of.object = all 0 of (omega arith) in omega (arith, it.object_is, above))
    (all_above n store (λ k d lt. all (suc k) d (omega arith)))

properties_rising : (store : Store) → AllPairs (λ (earlier : Properties) (later : Properties). earlier.object < later.object) store
    → AllPairs (λ (p : Property) (q : Property). is_before p q ≡ true) (properties_in store)
properties_rising [] rising = λ i j d lt within. absurd (omega arith)
properties_rising (of ∷ store) rising =
    pairs_append (λ (p : Property) (q : Property). is_before p q ≡ true) (properties_of_object of) (properties_in store) (numbered_rising of.object 0 of.fields)
    (properties_rising store (λ i j d lt within. rising (suc i) (suc j) d (omega arith) (omega arith)))
    (λ k d lt j e within.
    let it = numbered_from of.object 0 of.fields k d lt in
    let above : of.object < (get_or (properties_in store) j e).object =
    all_above of.object store (λ i f inside. rising 0 (suc i) f (omega arith) (omega arith)) j e within in
    before_later (get_or (properties_of_object of) k d).object (get_or (properties_of_object of) k d).number (get_or (properties_in store) j e).object
    (get_or (properties_in store) j e).number (omega (arith, it.object_is, above)))

pub all_shown_sound : (store : Store) → IsSound store → (bindings : List Binding) → AreBindings bindings → AreShown (all_shown store bindings)
all_shown_sound store sound bindings are = record {
  rising = pairs_given (shown_now store bindings) (λ (p : Property) (q : Property). is_before p q ≡ true)
      (λ (a : Shown) (b : Shown). is_before a.at b.at ≡ true)
      (λ p q a b before e f. subst (λ (x : Property). is_before x b.at ≡ true) (sym (shown_now_fits store sound bindings are.limited p a e).1)
      (subst (λ (x : Property). is_before p x ≡ true) (sym (shown_now_fits store sound bindings are.limited q b f).1) before))
      (properties_in store) (properties_rising store sound.rising);
  fitting = all_given (shown_now store bindings) (λ (s : Shown). IsOfKind s.kind s.value) (properties_in store)
      (λ k d lt s e. (shown_now_fits store sound bindings are.limited (get_or (properties_in store) k d) s e).0);
}

-- what is shown is short
abbrev ShortIf : Option Shown → Type 0
ShortIf o = (s : Shown) → o ≡ Some s → IsShort s.value

-- the value of a property is short
pub value_short : (store : Store) → IsSound store → (g : Graph) → graph.IsSound g → (q : Property) → IsShort (value_in store g q).0
value_short store sound g are q = told (shown_in store g q) (by (is_open g) (is_bound g.bindings q) (cell_in store q) refl)
  where
    then_short : (kind : _) (o : Option Shown) → shown_at g.last q ≡ o → IsShort (option_map_or (λ (shown : Shown). shown) o (fresh q kind)).value
    then_short kind None e = default_short kind
    then_short kind (Some s) e =
        let there = found (λ (shown : Shown). is_property q shown.at) g.last s e in
        subst (λ (s : Shown). IsShort s.value) (there.is s) (are.last.fitting there.at s there.within).1

    by : (deep bound : Bool) (c : Option Cell) → cell_in store q ≡ c
        → ShortIf (cond (deep && bound) (option_map (λ cell. option_map_or (λ (shown : Shown). shown) (shown_at g.last q) (fresh q cell.kind)) c)
        (shown_now store g.bindings q))
    by true true None e s f = absurd (cc)
    by true true (Some cell) e s f = let same : option_map_or (λ (shown : Shown). shown) (shown_at g.last q) (fresh q cell.kind) ≡ s = cc in subst
        (λ (s : Shown). IsShort s.value) same (then_short cell.kind (shown_at g.last q) refl)
    by true false c e s f = (shown_now_fits store sound g.bindings are.bindings.limited q s f).0.1
    by false bound c e s f = (shown_now_fits store sound g.bindings are.bindings.limited q s f).0.1

    told : (o : Option Shown) → ShortIf o → IsShort
        (option_map_or {U = Value × Option BindingError} (λ (shown : Shown). (shown.value, shown.error)) o (Invalid, None)).0
    told None short = tt
    told (Some s) short = short s refl

-- one property more, and one object more

pub next_numbered : {Y : Type 0} (f : Property → Option Y) (object m k : ℕ) (fields : List Field) → k < length fields
    → filter_map f (numbered object m (drop k fields)) ≡ filter_map f (record { object = object; number = m } ∷ [])
    ++ filter_map f (numbered object (suc m) (drop (suc k) fields))
next_numbered f object m k [] lt = absurd (omega arith)
next_numbered f object m zero (field ∷ fields) lt = filter_map-append f (record { object = object; number = m } ∷ []) (numbered object (suc m) fields)
next_numbered f object m (suc k) (field ∷ fields) lt = next_numbered f object m k fields (omega arith)

pub next_object : {Y : Type 0} (f : Property → Option Y) (store : Store) (position : ℕ) (d : Properties) → position < length store
    → filter_map f (flat_map properties_of_object (take (suc position) store)) ≡ filter_map f (flat_map properties_of_object (take position store))
    ++ filter_map f (properties_of_object (get_or store position d))
next_object f [] position d lt = absurd (omega arith)
next_object f (of ∷ store) zero d lt = ap (filter_map f) (append-nil (properties_of_object of))
next_object f (of ∷ store) (suc position) d lt =
    filter_map-append f (properties_of_object of) (flat_map properties_of_object (take (suc position) store))
    ∙ (ap (λ ys. filter_map f (properties_of_object of) ++ ys) (next_object f store position d (omega arith))
    ∙ (sym (append_assoc (filter_map f (properties_of_object of)) (filter_map f (flat_map properties_of_object (take position store)))
    (filter_map f (properties_of_object (get_or store position d))))
    ∙ ap (λ ys. ys ++ filter_map f (properties_of_object (get_or store position d)))
    (sym (filter_map-append f (properties_of_object of) (flat_map properties_of_object (take position store))))))
