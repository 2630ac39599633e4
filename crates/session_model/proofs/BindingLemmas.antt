-- What each change leaves of the bindings of a session, and of the properties that its objects declare.
use Rattle.std.proofs.Common.{◌≡◌, ◌∙◌, ◌+◌, ◌<◌, ◌≤◌, ◌==◌, ℕ, suc, Bool, true, false, not, cond, List, [], ◌∷◌, ◌++◌, Option, Some, None, All, filter, find}
use Rattle.std.proofs.Common.{is_some, length, nat_le, option_map, slice_get, get_or, refl, sym, ap, subst, arith}
use Rattle.std.specs.List.{AllByRecursion}
use Rattle.std.specs.Option.{option_and_then, option_map_or}
use Rattle.std.proofs.lemmas.Bool.{leb-false, not-true}
use Rattle.std.proofs.lemmas.Bool.Decides.{nat_tests}
use Rattle.std.proofs.lemmas.List.{length-append}
use Rattle.std.proofs.lemmas.List.Elements.{All-append, All-cons, All-filter, All-weaker, filter_passes}
use Rattle.session_model.proofs.Common.{Limit, is_within_limits, Term, Value, IsShort, converted, Field, AreSound, Properties, Store, changed, fitting}
use Rattle.session_model.proofs.Common.{properties_of, with_value, changed_fields, without_others, Property, Graph, begin_refusal, bind_refusal, is_bound}
use Rattle.session_model.proofs.Common.{is_open, unbound, properties_in, all_shown_sound}
use Rattle.property_store.specs.Store as store
use Rattle.property_store.specs.Store.{added, field_at, without}
use Rattle.property_store.proofs.ForCallers.{converted_fits, with_value_sound, added_others, objects}
use Rattle.binding_values.specs.declared.binding.Binding.{Binding}
use Rattle.binding_values.specs.Graph as graph
use Rattle.binding_values.specs.Graph.{AreShown, begun, ended, no_graph, without_object}
use Rattle.binding_values.specs.Binds.{with_binding}
use Rattle.property_store.specs.Property.{is_property}
use Rattle.binding_values.specs.Sorted.{is_before}
use Rattle.binding_values.specs.Stored.{is_bindable, numbered, properties_of_object}
use Rattle.binding_values.proofs.ForCallers.{fewer_sound, with_limited, property_eq, never_before, not_behind, with_rising}
use Rattle.session_model.specs.State.{closed}

-- the properties that an object declares, where it is there
abbrev fields_in : Store → ℕ → Option (List Field)
fields_in store object = option_map (λ (of : Properties). of.fields) (properties_of store object)

by_fields : (store : Store) (object number : ℕ) → field_at store object number ≡ option_and_then (λ fields. slice_get fields number) (fields_in store object)
by_fields store object number = by (properties_of store object)
  where
    by : (found : Option Properties) → option_and_then (λ (of : Properties). slice_get of.fields number) found
        ≡ option_and_then (λ fields. slice_get fields number) (option_map (λ (of : Properties). of.fields) found)
    by None = refl
    by (Some of) = refl

-- a property is there, and its class lets it be bound
abbrev pub IsBindable : Store → Property → Type 0
IsBindable store at = is_bindable store at ≡ true

-- so it is where its object declares the same as before
pub still_bindable : (one other : Store) (at : Property) → fields_in other at.object ≡ fields_in one at.object → IsBindable one at → IsBindable other at
still_bindable one other at same is =
    let field : field_at other at.object at.number ≡ field_at one at.object at.number =
    by_fields other at.object at.number ∙ (ap (option_and_then (λ fields. slice_get fields at.number)) same ∙ sym (by_fields one at.object at.number)) in
    subst (λ (found : Option Field). option_map_or (λ (field : Field). field.bindable) found false ≡ true) (sym field) is

-- each bound property is there and may be bound
abbrev pub AreBindable : Store → List Binding → Type 0
AreBindable store bindings = All (λ (binding : Binding). IsBindable store binding.at) bindings

pub bindable_changed : (change : Properties → Properties) (object : ℕ) → ((of : Properties) → (change of).object ≡ of.object)
    → ((of : Properties) → (change of).fields ≡ of.fields)
    → (store : Store) (bindings : List Binding) → AreBindable store bindings → AreBindable (changed change object store) bindings
bindable_changed change object same fields store bindings are =
    All-weaker (λ (binding : Binding). IsBindable store binding.at) (λ (binding : Binding). IsBindable (changed change object store) binding.at)
    (λ binding is. still_bindable store (changed change object store) binding.at (changed_fields change object same fields store binding.at.object) is) bindings
    are

-- an object that is there has a number that was given before
there_below : (next : ℕ) (store : Store) → AllByRecursion (λ number. number < next) (objects store) → (object : ℕ) (of : Properties)
    → properties_of store object ≡ Some of → of.object < next
there_below next [] below object of is = absurd (cc)
there_below next (first ∷ rest) below object of is = by (first.object == object) is (there_below next rest below.1 object of)
  where
    by : (here : Bool) → cond here (Some first) (properties_of rest object) ≡ Some of → (properties_of rest object ≡ Some of → of.object < next)
        → of.object < next
    by true e later = let same : first ≡ of = cc in subst (λ (of : Properties). of.object < next) same below.0
    by false e later = later e

pub found_number : (store : Store) (object : ℕ) (of : Properties) → properties_of store object ≡ Some of → (of.object == object) ≡ true
found_number [] object of is = absurd (cc)
found_number (first ∷ rest) object of is = by (first.object == object) refl is (found_number rest object of)
  where
    by : (here : Bool) → (first.object == object) ≡ here → cond here (Some first) (properties_of rest object) ≡ Some of
        → (properties_of rest object ≡ Some of → (of.object == object) ≡ true) → (of.object == object) ≡ true
    by true f e later = let same : first ≡ of = cc in subst (λ (of : Properties). (of.object == object) ≡ true) same f
    by false f e later = later e

bindable_apart : (next : ℕ) (store : Store) → AllByRecursion (λ number. number < next) (objects store) → (at : Property) → IsBindable store at
    → (next == at.object) ≡ false
bindable_apart next store below at is = by (properties_of store at.object) refl is
  where
    by : (found : Option Properties) → properties_of store at.object ≡ found
        → option_map_or (λ (field : Field). field.bindable) (option_and_then (λ (of : Properties). slice_get of.fields at.number) found) false ≡ true
        → (next == at.object) ≡ false
    by None e may = absurd (cc)
    by (Some of) e may =
        let less = there_below next store below at.object of e in
        let same = found_number store at.object of e in
        grind (arith, nat_tests, less, same)

pub bindable_added : (next : ℕ) (fields : List Field) (store : Store) (bindings : List Binding) → AllByRecursion (λ number. number < next) (objects store)
    → AreBindable store bindings → AreBindable (added store next fields) bindings
bindable_added next fields store bindings below are =
    All-weaker (λ (binding : Binding). IsBindable store binding.at) (λ (binding : Binding). IsBindable (added store next fields) binding.at)
    (λ binding is. still_bindable store (added store next fields) binding.at
    (ap (option_map (λ (of : Properties). of.fields)) (added_others store next fields binding.at.object (bindable_apart next store below binding.at is)))
    is) bindings are

-- with an object go its bindings
pub bindable_without : (object : ℕ) (store : Store) (graph : Graph) → AreBindable store graph.bindings
    → AreBindable (without object store) (without_object object graph).bindings
bindable_without object store graph are index default within =
    let rest = filter (λ (binding : Binding). not (binding.at.object == object)) graph.bindings in
    let its : Binding = get_or rest index default in
    let apart : (its.at.object == object) ≡ false = not-true (its.at.object == object)
    (filter_passes (λ (binding : Binding). not (binding.at.object == object)) graph.bindings index default within) in
    still_bindable store (without object store) its.at (ap (option_map (λ (of : Properties). of.fields)) (without_others store object its.at.object apart))
    (All-filter (λ (binding : Binding). not (binding.at.object == object))
    (λ (binding : Binding). IsBindable store binding.at) graph.bindings are index default within)

pub bindable_unbound : (store : Store) (graph : Graph) (at : Property) → AreBindable store graph.bindings → AreBindable store (unbound graph at).bindings
bindable_unbound store graph at are = All-filter (λ (binding : Binding). not (is_property at binding.at))
    (λ (binding : Binding). IsBindable store binding.at) graph.bindings are

pub bindable_bound : (store : Store) (new : Binding) (bindings : List Binding) → IsBindable store new.at → AreBindable store bindings
    → AreBindable store (with_binding new bindings)
bindable_bound store new bindings is are =
    All-append P (filter (λ binding. is_before binding.at new.at) bindings) (new ∷ filter (λ binding. is_before new.at binding.at) bindings)
    (All-filter (λ binding. is_before binding.at new.at) P bindings are)
    (All-cons P new (filter (λ binding. is_before new.at binding.at) bindings) is (All-filter (λ binding. is_before new.at binding.at) P bindings are))
  where
    P : Binding → Type 0
    P binding = IsBindable store binding.at

-- rows that pass one of two tests, where none passes both
apart-fewer : {X : Type 0} (p q : X → Bool) → ((x : X) → p x ≡ true → q x ≡ false) → (xs : List X) → length (filter p xs) + length (filter q xs) ≤ length xs
apart-fewer p q apart [] = omega arith
apart-fewer p q apart (x ∷ xs) = by (p x) refl (q x) refl (apart-fewer p q apart xs)
  where
    by : (one : Bool) → p x ≡ one → (other : Bool) → q x ≡ other → length (filter p xs) + length (filter q xs) ≤ length xs
        → length (cond one (x ∷ filter p xs) (filter p xs)) + length (cond other (x ∷ filter q xs) (filter q xs)) ≤ suc (length xs)
    by true e true f le = absurd (let never : true ≡ false = sym f ∙ apart x e in cc)
    by true e false f le = omega (arith, le)
    by false e true f le = omega (arith, le)
    by false e false f le = omega (arith, le)

-- there are more rows where one passes neither
apart-less : {X : Type 0} (p q r : X → Bool) → ((x : X) → p x ≡ true → q x ≡ false) → ((x : X) → r x ≡ true → (p x ≡ false) × (q x ≡ false)) → (xs : List X)
    → is_some (find r xs) ≡ true
    → length (filter p xs) + length (filter q xs) < length xs
apart-less p q r apart neither [] some = absurd (cc)
apart-less p q r apart neither (x ∷ xs) some = by (p x) refl (q x) refl (r x) refl some (apart-fewer p q apart xs) (apart-less p q r apart neither xs)
  where
    by : (one : Bool) → p x ≡ one → (other : Bool) → q x ≡ other → (here : Bool) → r x ≡ here → is_some (cond here (Some x) (find r xs)) ≡ true
        → length (filter p xs) + length (filter q xs) ≤ length xs → (is_some (find r xs) ≡ true → length (filter p xs) + length (filter q xs) < length xs)
        → length (cond one (x ∷ filter p xs) (filter p xs)) + length (cond other (x ∷ filter q xs) (filter q xs)) < suc (length xs)
    by true e true f here g some le more = absurd (let never : true ≡ false = sym f ∙ apart x e in cc)
    by true e false f true g some le more = absurd (let never : true ≡ false = sym e ∙ (neither x g).0 in cc)
    by false e true f true g some le more = absurd (let never : true ≡ false = sym f ∙ (neither x g).1 in cc)
    by false e false f true g some le more = omega (arith, le)
    by true e false f false g some le more = let less = more some in omega (arith, less)
    by false e true f false g some le more = let less = more some in omega (arith, less)
    by false e false f false g some le more = omega (arith, le)

-- one binding more is not too many where it was not refused
with_few : (graph : Graph) (new : Binding) → bind_refusal graph new.at ≡ None → length graph.bindings ≤ 1024 → length (with_binding new graph.bindings) ≤ 1024
with_few graph new passed few =
    by (is_bound graph.bindings new.at) refl (nat_le 1024 (length graph.bindings)) refl passed
  where
    front : Binding → Bool
    front binding = is_before binding.at new.at

    back : Binding → Bool
    back binding = is_before new.at binding.at

    its : Binding → Bool
    its binding = is_property new.at binding.at

    apart : (binding : Binding) → front binding ≡ true → back binding ≡ false
    apart binding before = not_behind binding.at new.at before

    neither : (binding : Binding) → its binding ≡ true → (front binding ≡ false) × (back binding ≡ false)
    neither binding is =
        let same = property_eq new.at binding.at is in (
          subst (λ (at : Property). is_before at new.at ≡ false) same (never_before new.at),
          subst (λ (at : Property). is_before new.at at ≡ false) same (never_before new.at),
        )

    parts : length (with_binding new graph.bindings) ≡ length (filter front graph.bindings) + suc (length (filter back graph.bindings))
    parts = length-append (filter front graph.bindings) (new ∷ filter back graph.bindings)

    found : (binding : Option Binding) → is_some (option_map (λ (binding : Binding). binding.expr) binding) ≡ true → is_some binding ≡ true
    found None e = absurd (cc)
    found (Some binding) e = refl

    by : (bound : Bool) → is_bound graph.bindings new.at ≡ bound → (full : Bool) → nat_le 1024 (length graph.bindings) ≡ full
        → cond bound None (cond full (Some Limit) None) ≡ None → length (with_binding new graph.bindings) ≤ 1024
    by true is full e none = let less = apart-less front back its apart neither graph.bindings (found (find its graph.bindings) is) in
        omega (arith, parts, less, few)
    by false is true e none = absurd (cc)
    by false is false e none =
        let fewer = apart-fewer front back apart graph.bindings in
        let room = leb-false 1024 (length graph.bindings) e in
        omega (arith, parts, fewer, room)

-- each change of the bindings and groups leaves them sound
pub graph_sound_none : graph.IsSound no_graph
graph_sound_none = record {
  bindings = record { few = omega arith; rising = λ i j default lt within. absurd (omega arith); limited = λ index default within. absurd (omega arith) };
  last = record { rising = λ i j default lt within. absurd (omega arith); fitting = λ index default within. absurd (omega arith) };
  shallow = omega arith;
}

nothing_shown : AreShown []
nothing_shown = record { rising = λ i j default lt within. absurd (omega arith); fitting = λ index default within. absurd (omega arith) }

pub graph_sound_bound : {g : Graph} (at : Property) (term : Term) → bind_refusal g at ≡ None → is_within_limits term ≡ true → graph.IsSound g
    → graph.IsSound (graph.bound g at term)
graph_sound_bound {g} at term passed short sound = record {
  bindings = record {
    few = with_few g new passed sound.bindings.few;
    rising = with_rising (λ (binding : Binding). binding.at) new g.bindings sound.bindings.rising;
    limited = with_limited new g.bindings short sound.bindings.limited;
  };
  last = sound.last;
  shallow = sound.shallow;
}
  where
    new : Binding
    new = record { at = at; expr = term }

pub graph_sound_unbound : {g : Graph} (at : Property) → graph.IsSound g → graph.IsSound (unbound g at)
graph_sound_unbound {g} at sound = record {
  bindings = fewer_sound (λ (binding : Binding). not (is_property at binding.at)) g.bindings sound.bindings;
  last = sound.last;
  shallow = sound.shallow;
}

pub graph_sound_without : {g : Graph} (object : ℕ) → graph.IsSound g → graph.IsSound (without_object object g)
graph_sound_without {g} object sound = record
    { bindings = fewer_sound (λ (binding : Binding). not (binding.at.object == object)) g.bindings sound.bindings; last = sound.last; shallow = sound.shallow }

-- a group more is not too many where it was not refused
pub graph_sound_begun : {s : Store} {g : Graph} → store.IsSound s → begin_refusal g ≡ None → graph.IsSound g → graph.IsSound (begun s g)
graph_sound_begun {s} {g} stored passed sound = record { bindings = sound.bindings; last = kept (is_open g); shallow = by (nat_le 1000 g.depth) refl passed }
  where
    kept : (deep : Bool) → AreShown (cond deep g.last (graph.all_shown s g.bindings))
    kept true = sound.last
    kept false = all_shown_sound s stored g.bindings sound.bindings

    by : (deep : Bool) → nat_le 1000 g.depth ≡ deep → cond deep (Some Limit) None ≡ None → suc g.depth ≤ 1000
    by true e none = absurd (cc)
    by false e none = let less = leb-false 1000 g.depth e in omega (arith, less)

pub graph_sound_ended : {g : Graph} → graph.IsSound g → graph.IsSound (closed (ended g))
graph_sound_ended {g} sound = by (is_open (ended g))
  where
    by : (deep : Bool) → graph.IsSound (cond deep (ended g) (record (ended g) { last = [] }))
    by true = record { bindings = sound.bindings; last = sound.last; shallow = omega (arith, sound.shallow) }
    by false = record { bindings = sound.bindings; last = nothing_shown; shallow = omega (arith, sound.shallow) }

-- what a short value is stored as keeps the properties of its object sound
pub fit_sound : (s : Store) (object number : ℕ) (value fit : Value) → IsShort value → fitting s object number value ≡ Some fit → (of : Properties)
    → properties_of s object ≡ Some of → AreSound of → AreSound (with_value number fit of)
fit_sound s object number value fit short is of there sound =
    by (slice_get of.fields number) refl (ap
    (λ found. option_and_then (λ (field : Field). converted field.kind value) (option_and_then (λ (of : Properties). slice_get of.fields number) found))
    (sym there) ∙ is)
  where
    by : (field : Option Field) → slice_get of.fields number ≡ field → option_and_then (λ (field : Field). converted field.kind value) field ≡ Some fit
        → AreSound (with_value number fit of)
    by None e f = absurd (cc)
    by (Some field) e f = let kind = converted_fits field.kind value fit short f in with_value_sound of sound number fit field e kind.0 kind.1

-- a change that leaves an object its number and what it declares leaves the declared properties
module _ (change : Properties → Properties) (object : ℕ) (same : (of : Properties) → (change of).object ≡ of.object)
    (fields : (of : Properties) → (change of).fields ≡ of.fields) where
  of_one : (of : Properties) (is : Bool) → properties_of_object (cond is (change of) of) ≡ properties_of_object of
  of_one of true = λ i. numbered (same of i) 0 (fields of i)
  of_one of false = refl

  pub properties_changed : (s : Store) → properties_in (changed change object s) ≡ properties_in s
  properties_changed [] = refl
  properties_changed (of ∷ rest) = λ i. of_one of (of.object == object) i ++ properties_changed rest i

  pub many_changed : (s : Store) → length (properties_in (changed change object s)) ≡ length (properties_in s)
  many_changed s = ap length (properties_changed s)

-- without an object there are no more
pub fewer_without : (object : ℕ) (s : Store) → length (properties_in (without object s)) ≤ length (properties_in s)
fewer_without object [] = omega arith
fewer_without object (of ∷ rest) = by (not (of.object == object)) (fewer_without object rest)
  where
    its : length (properties_in (of ∷ rest)) ≡ length (properties_of_object of) + length (properties_in rest)
    its = length-append (properties_of_object of) (properties_in rest)

    by : (stays : Bool) → length (properties_in (without object rest)) ≤ length (properties_in rest)
        → length (properties_in (cond stays (of ∷ without object rest) (without object rest))) ≤ length (properties_in (of ∷ rest))
    by true le = omega (arith, its, le, length-append (properties_of_object of) (properties_in (without object rest)))
    by false le = omega (arith, its, le)
