-- What the slots of one object hold.
use Rattle.std.proofs.Common.{◌≡◌, ◌∙◌, ℕ, zero, suc, ◌+◌, ◌<◌, ◌≤◌, ◌==◌, ◌&&◌, ◌||◌, nat_lt, Bool, true, false, cond, List, [], ◌∷◌, Option}
use Rattle.std.proofs.Common.{Some, None, All}
use Rattle.std.proofs.Common.{filter_map, length, get_or, set, refl, sym, ap, arith}
use Rattle.std.specs.List.{AllPairs}
use Rattle.std.proofs.lemmas.Bool.Decides.{nat_tests}
use Rattle.std.proofs.lemmas.List.Elements.{All-cons, All-nil}
use Rattle.std.proofs.lemmas.List.Kept.{AllPairs-cons}
use Rattle.variant_value.specs.Values.{IsOfKind}
use Rattle.property_store.specs.declared.property.Property.{Property}
use Rattle.property_store.specs.Property.{is_property}
use Rattle.binding_values.specs.Sorted.{is_before}
use Rattle.binding_values.specs.Graph.{shown_at}
use Rattle.binding_values.specs.declared.shown.Shown.{Shown}
use Rattle.binding_values.proofs.ForCallers.{is_itself, none_behind, property_eq}
use Rattle.binding_graph.specs.LastShown.{AreInSlots, slot_at}

abbrev Slots : Type 0
Slots = List (Option Shown)

abbrev pub held : Slots → List Shown
held slots = filter_map (λ slot. slot) slots

-- the slots behind the first one
later_slots : (object first : ℕ) (slot : Option Shown) (slots : Slots) → AreInSlots object first (slot ∷ slots) → AreInSlots object (suc first) slots
later_slots object first slot slots are k shown is =
    let there = are (suc k) shown is in
    let level : first + suc k ≡ suc first + k = omega arith in
    (there.0 ∙ ap (λ m. let p : Property = record { object = object; number = m } in p) level, there.1)

-- rows of an object from a number on
pub record IsFrom (object first : ℕ) (row : Shown) : Type 0 where
  pub object_is : row.at.object ≡ object
  pub from : first ≤ row.at.number
  pub fits : IsOfKind row.kind row.value

from_first : (object first : ℕ) (row : Shown) (slots : Slots) → AreInSlots object first (Some row ∷ slots) → IsFrom object first row
from_first object first row slots are =
    let there = are 0 row refl in
    let number : row.at.number ≡ first + 0 = ap (λ (p : Property). p.number) there.0 in
    record { object_is = ap (λ (p : Property). p.object) there.0; from = omega (arith, number); fits = there.1 }

pub held_from : (object first : ℕ) (slots : Slots) → AreInSlots object first slots → All (IsFrom object first) (held slots)
held_from object first [] are = All-nil (IsFrom object first)
held_from object first (None ∷ slots) are = λ k d lt.
    let it = held_from object (suc first) slots (later_slots object first None slots are) k d lt in
    record { object_is = it.object_is; from = omega (arith, it.from); fits = it.fits }
held_from object first (Some row ∷ slots) are =
    All-cons (IsFrom object first) row (held slots) (from_first object first row slots are)
    (λ k d lt. let it = held_from object (suc first) slots (later_slots object first (Some row) slots are) k d lt in
    record { object_is = it.object_is; from = omega (arith, it.from); fits = it.fits })

held_later : (object first : ℕ) (slot : Option Shown) (slots : Slots) → AreInSlots object first (slot ∷ slots) → All (IsFrom object (suc first)) (held slots)
held_later object first slot slots are = held_from object (suc first) slots (later_slots object first slot slots are)

-- they are in order
before_next : (a b c d : ℕ) → c ≡ a → b < d → (nat_lt a c || (a == c && nat_lt b d)) ≡ true
before_next a b c d same less = grind (arith, nat_tests)

first_before : (q row : Property) (object : ℕ) → q.object ≡ object → row.object ≡ object → q.number < row.number → is_before q row ≡ true
first_before q row object one other less = before_next q.object q.number row.object row.number (other ∙ sym one) less

abbrev Before : Shown → Shown → Type 0
Before earlier later = is_before earlier.at later.at ≡ true

pub held_rising : (object first : ℕ) (slots : Slots) → AreInSlots object first slots → AllPairs Before (held slots)
held_rising object first [] are = λ i j d lt within. absurd (omega arith)
held_rising object first (None ∷ slots) are = held_rising object (suc first) slots (later_slots object first None slots are)
held_rising object first (Some row ∷ slots) are =
    let there = are 0 row refl in
    let number : row.at.number ≡ first + 0 = ap (λ (p : Property). p.number) there.0 in
    AllPairs-cons Before row (held slots)
    (λ k d lt. let it = held_later object first (Some row) slots are k d lt in
    first_before row.at (get_or (held slots) k d).at object (ap (λ (p : Property). p.object) there.0) it.object_is (omega (arith, it.from, number)))
    (held_rising object (suc first) slots (later_slots object first (Some row) slots are))

-- what is found among them is what the slot holds
found_later : (object first : ℕ) (slot : Option Shown) (slots : Slots) → AreInSlots object first (slot ∷ slots)
    → shown_at (held slots) (record { object = object; number = first + 0 }) ≡ None
found_later object first slot slots are =
    none_behind (record { object = object; number = first + 0 }) (held slots)
    (λ k d lt. let it = held_later object first slot slots are k d lt in
    first_before (record { object = object; number = first + 0 }) (get_or (held slots) k d).at object refl it.object_is (omega (arith, it.from)))

apart : (object first k : ℕ) (p : Property) → p ≡ record { object = object; number = first + 0 }
    → is_property (record { object = object; number = first + suc k }) p ≡ false
apart object first k p is =
    ap (is_property (record { object = object; number = first + suc k })) is ∙ other object first k
  where
    other : (object first k : ℕ) → ((object == object) && ((first + suc k) == (first + 0))) ≡ false
    other object first k = grind (arith, nat_tests)

pub held_at : (object first : ℕ) (slots : Slots) → AreInSlots object first slots → (k : ℕ)
    → shown_at (held slots) (record { object = object; number = first + k }) ≡ slot_at slots k
held_at object first [] are k = refl
held_at object first (None ∷ slots) are zero = found_later object first None slots are
held_at object first (None ∷ slots) are (suc k) =
    let level : first + suc k ≡ suc first + k = omega arith in
    ap (λ m. shown_at (held slots) (record { object = object; number = m })) level
    ∙ held_at object (suc first) slots (later_slots object first None slots are) k
held_at object first (Some row ∷ slots) are zero =
    let here : is_property (record { object = object; number = first + 0 }) row.at ≡ true =
    ap (λ p. is_property p row.at) (sym (are 0 row refl).0) ∙ is_itself row.at in
    rw here refl
held_at object first (Some row ∷ slots) are (suc k) =
    let level : first + suc k ≡ suc first + k = omega arith in
    let other : is_property (record { object = object; number = first + suc k }) row.at ≡ false = apart object first k row.at (are 0 row refl).0 in
    rw other
    (ap (λ m. shown_at (held slots) (record { object = object; number = m })) level
    ∙ held_at object (suc first) slots (later_slots object first (Some row) slots are) k)

-- nothing is found of another object
pub held_elsewhere : (object : ℕ) (rows : List Shown) → All (λ (row : Shown). row.at.object ≡ object) rows → (q : Property) → (q.object == object) ≡ false
    → shown_at rows q ≡ None
held_elsewhere object [] all q other = refl
held_elsewhere object (row ∷ rows) all q other =
    let here : (q.object == row.at.object) ≡ false = ap (λ n. q.object == n) (all 0 row (omega arith)) ∙ other in
    rw here (held_elsewhere object rows (λ k d lt. all (suc k) d (omega arith)) q other)

-- a slot that is written, slots that are added, and slots that are dropped

numbers_differ : (k : ℕ) → ((suc k == 0) ≡ false) × ((0 == suc k) ≡ false)
numbers_differ k = (grind (arith, nat_tests), grind (arith, nat_tests))

numbers_same : (k number : ℕ) → (suc k == suc number) ≡ (k == number)
numbers_same k number = grind (arith, nat_tests)

pub written_slot : (slots : Slots) (number : ℕ) (slot : Option Shown) → number < length slots → (k : ℕ)
    → slot_at (set slots number slot) k ≡ cond (k == number) slot (slot_at slots k)
written_slot [] number slot within k = absurd (omega arith)
written_slot (one ∷ slots) zero slot within zero = refl
written_slot (one ∷ slots) zero slot within (suc k) = ap (λ t. cond t slot (slot_at slots k)) (sym (numbers_differ k).0)
written_slot (one ∷ slots) (suc number) slot within zero = ap (λ t. cond t slot one) (sym (numbers_differ number).1)
written_slot (one ∷ slots) (suc number) slot within (suc k) =
    written_slot slots number slot (omega arith) k ∙ ap (λ t. cond t slot (slot_at slots k)) (sym (numbers_same k number))

pub no_slot : (slots : Slots) → length slots ≡ 0 → (k : ℕ) → slot_at slots k ≡ None
no_slot [] none k = refl
no_slot (slot ∷ slots) none k = absurd (omega (arith, none))

-- nothing is dropped where nothing is shown
pub none_there : (rows : List Shown) (at : Property) → ((q : Property) → q.object ≡ at.object → shown_at rows q ≡ None) → (q : Property)
    → shown_at rows q ≡ cond (is_property q at) None (shown_at rows q)
none_there rows at none q = by (is_property q at) refl
  where
    by : (here : Bool) → is_property q at ≡ here → shown_at rows q ≡ cond here None (shown_at rows q)
    by true e = none q (ap (λ (p : Property). p.object) (property_eq q at e))
    by false e = refl
