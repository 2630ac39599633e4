-- What the properties of a place showed, by object.
use Rattle.std.proofs.Common.{◌≡◌, ◌∙◌, ℕ, zero, suc, ◌+◌, ◌<◌, ◌≤◌, ◌==◌, ◌&&◌, ◌||◌, nat_lt, Bool, true, false, cond, not, List, [], ◌∷◌, ◌++◌}
use Rattle.std.proofs.Common.{Option, Some, None, All}
use Rattle.std.proofs.Common.{filter, filter_map, length, get_or, set, refl, sym, ap, ap₂, subst, arith}
use Rattle.std.specs.List.{insert, remove}
use Rattle.std.specs.Option.{option_map_or, option_or}
use Rattle.std.proofs.lemmas.Bool.{eq-eqb, eqb-true}
use Rattle.std.proofs.lemmas.Bool.Decides.{nat_tests}
use Rattle.std.proofs.lemmas.Option.{none-some}
use Rattle.std.proofs.lemmas.List.{get_or-set_same, length-set}
use Rattle.std.proofs.lemmas.List.Elements.{All-append, All-cons, All-filter, All-nil, All-set}
use Rattle.std.proofs.lemmas.List.Folds.{find-append}
use Rattle.std.proofs.lemmas.List.Kept.{AllPairs-filter}
use Rattle.variant_value.specs.Values.{IsOfKind}
use Rattle.property_store.specs.declared.property.Property.{Property}
use Rattle.property_store.specs.Property.{is_property}
use Rattle.binding_values.specs.Sorted.{IsGapAt, is_before}
use Rattle.binding_values.specs.Graph.{AreShown, shown_at}
use Rattle.binding_values.specs.declared.shown.Shown.{Shown}
use Rattle.binding_values.proofs.ForCallers.{found_none, found_row, insert_rising, inserted, inserted_other, none_behind, others_before}
use Rattle.binding_values.proofs.ForCallers.{pairs_append, same_rows, set_here, set_other, set_rising, without_row}
use Rattle.binding_graph.specs.declared.shown_object.ShownObject.{ShownObject}
use Rattle.binding_graph.specs.LastShown.{AreAsMany, AreByObject, AreInSlots, HasMoreSlots, IsPlaceOf, IsSlot, ShowSame, first_of, head, joined}
use Rattle.binding_graph.specs.LastShown.{object_in, rows_of, slot_at, slots_of}
use Rattle.binding_graph.specs.Rows.{AreReplaced}
use Rattle.binding_graph.proofs.SlotLemmas.{held_at, held_elsewhere, held_from, held_rising, no_slot}

abbrev Filled : ShownObject → Type 0
Filled of = AreInSlots of.object 0 of.slots.items

abbrev is_head : ℕ → ShownObject → Bool
is_head object of = is_property (first_of object) (head of)

later_objects : (of : ShownObject) (objects : List ShownObject) → AreByObject (of ∷ objects) → AreByObject objects
later_objects of objects are = record {
  rising = λ i j d lt within. are.rising (suc i) (suc j) d (omega arith) (omega arith);
  filled = λ k d lt. are.filled (suc k) d (omega arith);
}

-- the order of objects

before_later : (a c : ℕ) → (nat_lt a c || (a == c && nat_lt 0 0)) ≡ true → a < c
before_later a c before = grind (arith, nat_tests)

later_before : (a b c d : ℕ) → a < c → (nat_lt a c || (a == c && nat_lt b d)) ≡ true
later_before a b c d less = grind (arith, nat_tests)

head_same : (a b : ℕ) → ((a == b) && (0 == 0)) ≡ true → a ≡ b
head_same a b same = grind (arith, nat_tests)

head_other : (a b : ℕ) → ((a == b) && (0 == 0)) ≡ false → (a == b) ≡ false
head_other a b other = grind (arith, nat_tests)

pub objects_behind : (of : ShownObject) (objects : List ShownObject) → AreByObject (of ∷ objects)
    → All (λ (later : ShownObject). of.object < later.object) objects
objects_behind of objects are k d lt = before_later of.object (get_or objects k d).object (are.rising 0 (suc k) d (omega arith) (omega arith))

rows_are : (of : ShownObject) → Filled of → All (λ (row : Shown). row.at.object ≡ of.object) (rows_of of)
rows_are of filled k d lt = (held_from of.object 0 of.slots.items filled k d lt).object_is

-- the rows of objects behind a number are behind it
joined_above : (n : ℕ) (objects : List ShownObject) → All (λ (of : ShownObject). n < of.object) objects → All Filled objects
    → All (λ (row : Shown). n < row.at.object) (joined objects)
joined_above n [] all filled = All-nil (λ (row : Shown). n < row.at.object)
joined_above n (of ∷ objects) all filled =
    All-append (λ (row : Shown). n < row.at.object) (rows_of of) (joined objects)
    (λ k d lt. let it = rows_are of (filled 0 of (omega arith)) k d lt in let above : n < of.object = all 0 of (omega arith) in omega (arith, it, above))
    (joined_above n objects (λ k d lt. all (suc k) d (omega arith)) (λ k d lt. filled (suc k) d (omega arith)))

rows_behind : (of : ShownObject) (objects : List ShownObject) → AreByObject (of ∷ objects)
    → All (λ (row : Shown). of.object < row.at.object) (joined objects)
rows_behind of objects are = joined_above of.object objects (objects_behind of objects are) (later_objects of objects are).filled

-- all rows are in order, and of their kinds
pub joined_shown : (objects : List ShownObject) → AreByObject objects → AreShown (joined objects)
joined_shown [] are = record { rising = λ i j d lt within. absurd (omega arith); fitting = All-nil (λ (row : Shown). IsOfKind row.kind row.value) }
joined_shown (of ∷ objects) are =
    let rest = joined_shown objects (later_objects of objects are) in
    let filled : Filled of = are.filled 0 of (omega arith) in
    record {
      rising = pairs_append (λ (earlier : Shown) (later : Shown). is_before earlier.at later.at ≡ true) (rows_of of) (joined objects)
          (held_rising of.object 0 of.slots.items filled) rest.rising
          (λ k d lt j e within.
          let here = rows_are of filled k d lt in
          let behind = rows_behind of objects are j e within in
          later_before (get_or (rows_of of) k d).at.object (get_or (rows_of of) k d).at.number (get_or (joined objects) j e).at.object
          (get_or (joined objects) j e).at.number (omega (arith, here, behind)));
      fitting = All-append (λ (row : Shown). IsOfKind row.kind row.value) (rows_of of) (joined objects)
          (λ k d lt. (held_from of.object 0 of.slots.items filled k d lt).fits) rest.fitting;
    }

-- what is found of a property is what its slot holds

abbrev pub in_slot : List ShownObject → Property → Option Shown
in_slot objects q = option_map_or (λ (of : ShownObject). slot_at of.slots.items q.number) (object_in objects q.object) None

found_here : (of : ShownObject) → Filled of → (q : Property) → q.object ≡ of.object → shown_at (rows_of of) q ≡ slot_at of.slots.items q.number
found_here of filled q same =
    let level : q.number ≡ 0 + q.number = omega arith in
    ap (λ (object : ℕ). shown_at (rows_of of) (record { object = object; number = q.number })) same
    ∙ (ap (λ (number : ℕ). shown_at (rows_of of) (record { object = of.object; number = number })) level
    ∙ held_at of.object 0 of.slots.items filled q.number)

pub joined_at : (objects : List ShownObject) → AreByObject objects → (q : Property) → shown_at (joined objects) q ≡ in_slot objects q
joined_at [] are q = refl
joined_at (of ∷ objects) are q =
    find-append (λ (row : Shown). is_property q row.at) (rows_of of) (joined objects)
    ∙ by (is_head q.object of) refl (joined_at objects (later_objects of objects are) q)
  where
    filled : Filled of
    filled = are.filled 0 of (omega arith)

    none : q.object ≡ of.object → shown_at (joined objects) q ≡ None
    none same = none_behind q (joined objects)
        (λ k d lt. let behind = rows_behind of objects are k d lt in
        later_before q.object q.number (get_or (joined objects) k d).at.object (get_or (joined objects) k d).at.number (omega (arith, same, behind)))

    last : (found : Option Shown) → option_or found None ≡ found
    last (Some row) = refl
    last None = refl

    by : (here : Bool) → is_head q.object of ≡ here → shown_at (joined objects) q ≡ in_slot objects q
        → option_or (shown_at (rows_of of) q) (shown_at (joined objects) q)
        ≡ option_map_or (λ (of : ShownObject). slot_at of.slots.items q.number) (cond here (Some of) (object_in objects q.object)) None
    by true e later =
        let same : q.object ≡ of.object = head_same q.object of.object e in
        ap₂ (λ here later. option_or here later) (found_here of filled q same) (none same) ∙ last (slot_at of.slots.items q.number)
    by false e later =
        let nothing : shown_at (rows_of of) q ≡ None = held_elsewhere of.object (rows_of of) (rows_are of filled) q (head_other q.object of.object e) in
        ap (λ here. option_or here (shown_at (joined objects) q)) nothing ∙ later

-- the same rows are found of each property, so they are the same
pub joined_same : (one other : List ShownObject) → AreByObject one → AreByObject other
    → ((q : Property) → shown_at (joined one) q ≡ shown_at (joined other) q) → joined one ≡ joined other
joined_same one other are is same = same_rows (joined one) (joined other) (joined_shown one are).rising (joined_shown other is).rising same

-- the slot of a property was written in the object at a place: it holds a row of the property, or nothing
pub record AreWritten (objects : List ShownObject) (at : Property) (place : ℕ) (slot : Option Shown) (old new : ShownObject) : Type 0 where
  pub sound : AreByObject (set objects place new)
  pub shown : (q : Property) → shown_at (joined (set objects place new)) q ≡ cond (is_property q at) slot (shown_at (joined objects) q)
  pub as_many : length old.slots.items ≤ length new.slots.items → AreAsMany objects (set objects place new)
  pub stays : IsPlaceOf (set objects place new) at.object place
  pub empty : length new.slots.items ≡ 0 → (q : Property) → q.object ≡ at.object → shown_at (joined (set objects place new)) q ≡ None

-- an object in place of another with its number

head_is : (object other : ℕ) → ((other == object) && (0 == 0)) ≡ (other == object)
head_is object other = grind (arith, nat_tests)

module _ {objects : List ShownObject} (are : AreByObject objects) {object place : ℕ} (there : IsPlaceOf objects object place) where
  -- the object is found at its place
  pub slots_there : (d : ShownObject) → slots_of objects object ≡ length (get_or objects place d).slots.items
  slots_there d = ap (λ found. option_map_or (λ (of : ShownObject). length of.slots.items) found 0) (found_row there are.rising d)

  pub shown_there : (d : ShownObject) (q : Property) → q.object ≡ object → shown_at (joined objects) q ≡ slot_at (get_or objects place d).slots.items q.number
  shown_there d q same = joined_at objects are q ∙ ap (λ found. option_map_or (λ (of : ShownObject). slot_at of.slots.items q.number) found None)
      (ap (object_in objects) same ∙ found_row there are.rising d)

  module _ (new : ShownObject) (same : new.object ≡ object) (filled : Filled new) where
    pub set_sound : AreByObject (set objects place new)
    set_sound = record {
      rising = set_rising are.rising new there (ap first_of (sym same));
      filled = All-set Filled objects place new filled are.filled;
    }

    pub object_set : (other : ℕ) → object_in (set objects place new) other ≡ cond (other == object) (Some new) (object_in objects other)
    object_set other = by (other == object) refl
      where
        new_is : is_head other new ≡ (other == object)
        new_is = ap (λ n. (other == n) && (0 == 0)) same ∙ head_is object other

        by : (here : Bool) → (other == object) ≡ here → object_in (set objects place new) other ≡ cond here (Some new) (object_in objects other)
        by true e = set_here (is_head other) objects place new there.within (new_is ∙ e)
            (λ k d low high. ap (λ n. is_property (first_of n) (head (get_or objects k d))) (eqb-true other object e)
            ∙ others_before there are.rising k d low high)
        by false e = set_other (is_head other) objects place new new (new_is ∙ e)
            (ap (is_property (first_of other)) (there.is new) ∙ (head_is object other ∙ e))

    pub shown_set : (q : Property) → shown_at (joined (set objects place new)) q
        ≡ cond (q.object == object) (slot_at new.slots.items q.number) (shown_at (joined objects) q)
    shown_set q =
        joined_at (set objects place new) set_sound q
        ∙ (ap (λ found. option_map_or (λ (of : ShownObject). slot_at of.slots.items q.number) found None) (object_set q.object)
        ∙ (by (q.object == object) ∙ ap (cond (q.object == object) (slot_at new.slots.items q.number)) (sym (joined_at objects are q))))
      where
        by : (here : Bool) → option_map_or (λ (of : ShownObject). slot_at of.slots.items q.number) (cond here (Some new) (object_in objects q.object)) None
            ≡ cond here (slot_at new.slots.items q.number) (in_slot objects q)
        by true = refl
        by false = refl

    pub slots_set : (old : ShownObject) → old ≡ get_or objects place old → length old.slots.items ≤ length new.slots.items
        → AreAsMany objects (set objects place new)
    slots_set was was_is more other = by (other == object) refl
        (ap (λ found. option_map_or (λ (of : ShownObject). length of.slots.items) found 0) (object_set other))
      where
        by : (here : Bool) → (other == object) ≡ here
            → slots_of (set objects place new) other
            ≡ option_map_or (λ (of : ShownObject). length of.slots.items) (cond here (Some new) (object_in objects other)) 0
            → slots_of objects other ≤ slots_of (set objects place new) other
        by true e is =
            let before : slots_of objects other ≡ length was.slots.items = ap (slots_of objects) (eqb-true other object e)
            ∙ (slots_there was ∙ ap (λ (of : ShownObject). length of.slots.items) (sym was_is)) in
            omega (arith, before, is, more)
        by false e is = omega (arith, is)

    -- its place stays
    pub place_set : IsPlaceOf (set objects place new) object place
    place_set = record {
      within = omega (arith, length-set objects place new, there.within);
      is = λ d. ap head (get_or-set_same objects place new d there.within) ∙ ap first_of same;
    }

  module _ (old : ShownObject) (old_is : old ≡ get_or objects place old) where
    old_object : old.object ≡ object
    old_object = ap (λ (of : ShownObject). of.object) old_is ∙ ap (λ (p : Property). p.object) (there.is old)

    old_filled : Filled old
    old_filled = subst Filled (sym old_is) (are.filled place old there.within)

    old_shown : (q : Property) → q.object ≡ object → shown_at (joined objects) q ≡ slot_at old.slots.items q.number
    old_shown q same = shown_there old q same ∙ ap (λ (of : ShownObject). slot_at of.slots.items q.number) (sym old_is)

    -- with more slots, nothing else is shown
    pub same_with_more : (new : ShownObject) → HasMoreSlots old new → ShowSame objects (set objects place new)
    same_with_more new more = record {
      sound = set_sound new same filled;
      same = λ q. shown_set new same filled q ∙ by q (q.object == object) refl;
      as_many = slots_set new same filled old old_is more.as_many;
    }
      where
        same : new.object ≡ object
        same = more.object ∙ old_object

        filled : Filled new
        filled k shown is =
            let was = old_filled k shown (sym (more.same k) ∙ is) in
            (was.0 ∙ ap (λ n. let p : Property = record { object = n; number = 0 + k } in p) (sym more.object), was.1)

        by : (q : Property) (here : Bool) → (q.object == object) ≡ here
            → cond here (slot_at new.slots.items q.number) (shown_at (joined objects) q) ≡ shown_at (joined objects) q
        by q true e = more.same q.number ∙ sym (old_shown q (eqb-true q.object object e))
        by q false e = refl

    -- another value in a slot: a row that is put there, or nothing
    module _ (number : ℕ) (slot : Option Shown) (fits : (shown : Shown) → slot ≡ Some shown
        → (shown.at ≡ record { object = object; number = number }) × IsOfKind shown.kind shown.value) (new : ShownObject) (same : new.object ≡ object)
        (written : (k : ℕ) → slot_at new.slots.items k ≡ cond (k == number) slot (slot_at old.slots.items k)) where
      written_filled : Filled new
      written_filled k shown is = by (k == number) refl (sym (written k) ∙ is)
        where
          by : (here : Bool) → (k == number) ≡ here → cond here slot (slot_at old.slots.items k) ≡ Some shown
              → (shown.at ≡ record { object = new.object; number = 0 + k }) × IsOfKind shown.kind shown.value
          by true e f =
              let it = fits shown f in
              let level : number ≡ 0 + k = omega (arith, eqb-true k number e) in
              (it.0 ∙ ap₂ (λ o n. let p : Property = record { object = o; number = n } in p) (sym same) level, it.1)
          by false e f =
              let it = old_filled k shown f in
              (it.0 ∙ ap (λ o. let p : Property = record { object = o; number = 0 + k } in p) (old_object ∙ sym same), it.1)

      pub slot_written : AreWritten objects (record { object = object; number = number }) place slot old new
      slot_written = record {
        sound = set_sound new same written_filled;
        shown = λ q. shown_set new same written_filled q ∙ by q (q.object == object) refl;
        as_many = slots_set new same written_filled old old_is;
        stays = place_set new same written_filled;
        empty = λ none q here. shown_set new same written_filled q
            ∙ (ap (λ t. cond t (slot_at new.slots.items q.number) (shown_at (joined objects) q)) (eq-eqb q.object object here)
            ∙ no_slot new.slots.items none q.number);
      }
        where
          by : (q : Property) (here : Bool) → (q.object == object) ≡ here
              → cond here (slot_at new.slots.items q.number) (shown_at (joined objects) q)
              ≡ cond (here && (q.number == number)) slot (shown_at (joined objects) q)
          by q true e = written q.number ∙ ap (cond (q.number == number) slot) (sym (old_shown q (eqb-true q.object object e)))
          by q false e = refl

-- an object that is inserted

joined_inserted : (objects : List ShownObject) (place : ℕ) (new : ShownObject) → rows_of new ≡ [] → joined (insert objects place new) ≡ joined objects
joined_inserted [] zero new none = ap (λ rows. rows ++ []) none
joined_inserted [] (suc place) new none = ap (λ rows. rows ++ []) none
joined_inserted (of ∷ objects) zero new none = ap (λ rows. rows ++ joined (of ∷ objects)) none
joined_inserted (of ∷ objects) (suc place) new none = ap (λ rows. rows_of of ++ rows) (joined_inserted objects place new none)

module _ {objects : List ShownObject} (are : AreByObject objects) (new : ShownObject) {place : ℕ} (gap : IsGapAt head objects (head new) place)
    (none : new.slots.items ≡ []) where
  pub insert_same : ShowSame objects (insert objects place new)
  insert_same = record {
    sound = record {
      rising = insert_rising are.rising new gap;
      filled = subst (All Filled) (sym (inserted new gap)) (All-append Filled below (new ∷ above)
          (All-filter (λ of. is_before (head of) (head new)) Filled objects are.filled)
          (All-cons Filled new above empty (All-filter (λ of. is_before (head new) (head of)) Filled objects are.filled)));
    };
    same = λ q. ap (λ rows. shown_at rows q) (joined_inserted objects place new (ap (filter_map (λ slot. slot)) none));
    as_many = λ object. by object (is_head object new) refl;
  }
    where
      below : List ShownObject
      below = filter (λ of. is_before (head of) (head new)) objects

      above : List ShownObject
      above = filter (λ of. is_before (head new) (head of)) objects

      empty : Filled new
      empty k shown holds = absurd (let never : None ≡ Some shown = sym (ap (λ slots. slot_at slots k) none) ∙ holds in cc)

      by : (object : ℕ) (here : Bool) → is_head object new ≡ here → slots_of objects object ≤ slots_of (insert objects place new) object
      by object true e =
          let absent : object_in objects object ≡ None = ap (object_in objects) (head_same object new.object e) ∙ found_none gap in
          let zero_slots : slots_of objects object ≡ 0 = ap (λ found. option_map_or (λ (of : ShownObject). length of.slots.items) found 0) absent in
          omega (arith, zero_slots)
      by object false e =
          let level : slots_of (insert objects place new) object ≡ slots_of objects object =
          ap (λ found. option_map_or (λ (of : ShownObject). length of.slots.items) found 0) (inserted_other (is_head object) objects place new e) in
          omega (arith, level)

-- an object that goes

abbrev others : ℕ → List ShownObject → List ShownObject
others object objects = filter (λ of. not (is_head object of)) objects

head_twice : (other object n : ℕ) → ((object == n) && (0 == 0)) ≡ true → ((other == n) && (0 == 0)) ≡ true → (other == object) ≡ true
head_twice other object n one two = grind (arith, nat_tests)

head_apart : (other object n : ℕ) → ((object == n) && (0 == 0)) ≡ false → ((other == n) && (0 == 0)) ≡ true → (other == object) ≡ false
head_apart other object n one two = grind (arith, nat_tests)

-- it is found no more, and each other one is found as before
object_among_others : (object other : ℕ) (objects : List ShownObject)
    → object_in (others object objects) other ≡ cond (other == object) None (object_in objects other)
object_among_others object other [] = by (other == object)
  where
    by : (same : Bool) → object_in [] other ≡ cond same None (object_in [] other)
    by true = refl
    by false = refl
object_among_others object other (of ∷ objects) = by (is_head object of) refl (is_head other of) refl (object_among_others object other objects)
  where
    by : (gone : Bool) → is_head object of ≡ gone → (here : Bool) → is_head other of ≡ here
        → object_in (others object objects) other ≡ cond (other == object) None (object_in objects other)
        → object_in (cond (not gone) (of ∷ others object objects) (others object objects)) other
        ≡ cond (other == object) None (cond here (Some of) (object_in objects other))
    by true e true f later = later ∙ (ap (λ t. cond t None (object_in objects other)) (head_twice other object of.object e f)
        ∙ sym (ap (λ t. cond t None (Some of)) (head_twice other object of.object e f)))
    by true e false f later = later
    by false e true f later = ap (λ t. cond t (Some of) (object_in (others object objects) other)) f
        ∙ sym (ap (λ t. cond t None (Some of)) (head_apart other object of.object e f))
    by false e false f later = ap (λ t. cond t (Some of) (object_in (others object objects) other)) f ∙ later

module _ {objects : List ShownObject} (are : AreByObject objects) {object place : ℕ} where
  pub remove_sound : IsPlaceOf objects object place → AreByObject (remove objects place)
  remove_sound there = subst AreByObject (without_row there are.rising) (record {
    rising = AllPairs-filter (λ (earlier : ShownObject) (later : ShownObject). is_before (head earlier) (head later) ≡ true)
        (λ of. not (is_head object of)) objects are.rising;
    filled = All-filter (λ of. not (is_head object of)) Filled objects are.filled;
  })

  -- an object that has no place shows nothing
  module _ (gap : IsGapAt head objects (first_of object) place) where
    pub nothing_shown : (q : Property) → q.object ≡ object → shown_at (joined objects) q ≡ None
    nothing_shown q same = joined_at objects are q
        ∙ ap (λ found. option_map_or (λ (of : ShownObject). slot_at of.slots.items q.number) found None) (ap (object_in objects) same ∙ found_none gap)

    -- and has no slot
    pub no_slots : slots_of objects object ≡ 0
    no_slots = ap (λ found. option_map_or (λ (of : ShownObject). length of.slots.items) found 0) (found_none gap)

-- a row that is dropped, and its object, if no slot is left

pub slot_emptied : {objects : List ShownObject} → AreByObject objects → {at : Property} {place : ℕ} → IsPlaceOf objects at.object place
    → (old : ShownObject) → old ≡ get_or objects place old → (new : ShownObject) → new.object ≡ old.object
    → ((k : ℕ) → slot_at new.slots.items k ≡ cond (k == at.number) None (slot_at old.slots.items k)) → AreWritten objects at place None old new
slot_emptied are {at} there old old_is new same emptied =
    slot_written are there old old_is at.number None (λ shown is. absurd (none-some shown is)) new (same ∙ old_object are there old old_is) emptied

module _ {objects : List ShownObject} {at : Property} {place : ℕ} {old new : ShownObject} (it : AreWritten objects at place None old new) where
  pub dropped_sound : AreByObject (remove (set objects place new) place)
  dropped_sound = remove_sound it.sound it.stays

  pub dropped_shown : length new.slots.items ≡ 0 → (q : Property)
      → shown_at (joined (remove (set objects place new) place)) q ≡ cond (is_property q at) None (shown_at (joined objects) q)
  dropped_shown none q =
      joined_at (remove (set objects place new) place) dropped_sound q
      ∙ (ap (λ found. option_map_or (λ (of : ShownObject). slot_at of.slots.items q.number) found None)
      (ap (λ objects. object_in objects q.object) (sym (without_row it.stays it.sound.rising)) ∙ object_among_others at.object q.object (set objects place new))
      ∙ (by (q.object == at.object) refl ∙ it.shown q))
    where
      by : (same : Bool) → (q.object == at.object) ≡ same
          → option_map_or (λ (of : ShownObject). slot_at of.slots.items q.number) (cond same None (object_in (set objects place new) q.object)) None
          ≡ shown_at (joined (set objects place new)) q
      by true e = sym (it.empty none q (eqb-true q.object at.object e))
      by false e = sym (joined_at (set objects place new) it.sound q)

-- the slot of a property that has one
pub slot_has : (objects : List ShownObject) → AreByObject objects → {at : Property} {place : ℕ} → IsSlot objects at place
    → at.number < slots_of objects at.object
slot_has [] are slot = absurd (omega (arith, slot.object.within))
slot_has (of ∷ objects) are slot = omega (arith, slot.number of, slots_there are slot.object of)

-- slots that are made one after another

pub same_twice : (one two three : List ShownObject) → ShowSame one two → ShowSame two three → ShowSame one three
same_twice one two three first second = record {
  sound = second.sound;
  same = λ q. second.same q ∙ first.same q;
  as_many = λ object. omega (arith, first.as_many object, second.as_many object);
}

pub more_slots : {one two : List ShownObject} → ShowSame one two → {object place : ℕ} → IsPlaceOf two object place → (old : ShownObject)
    → old ≡ get_or two place old → (new : ShownObject) → HasMoreSlots old new → ShowSame one (set two place new)
more_slots {one} {two} same {object} {place} there old old_is new more =
    same_twice one two (set two place new) same (same_with_more same.sound there old old_is new more)

-- where nothing was shown, what is put is all
pub all_put : (rows last new : List Shown) → AreShown rows → AreShown new → last ≡ [] → AreReplaced [] rows last new → new ≡ rows
all_put rows last new are is nothing replaced =
    same_rows new rows is.rising are.rising
    (λ q. replaced q ∙ (ap (λ last. option_map_or Some (shown_at rows q) (shown_at last q)) nothing ∙ by (shown_at rows q)))
  where
    by : (found : Option Shown) → option_map_or Some found None ≡ found
    by (Some row) = refl
    by None = refl
