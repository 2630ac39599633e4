-- Entries in the order of their objects: which one is of an object.
use Rattle.std.proofs.Common.{◌≡◌, ◌≢◌, ◌∙◌, ℕ, zero, suc, ◌+◌, ◌-◌, ◌<◌, ◌≤◌, ◌==◌, Bool, true, false, cond, List, [], ◌∷◌, get_or, length, min, nat_lt, set}
use Rattle.std.proofs.Common.{refl, sym, ap, subst, arith}
use Rattle.std.specs.Prelude.{Result, Ok, Err, OnOk, OnErr}
use Rattle.std.specs.Cmp.{nat_cmp_is}
use Rattle.std.specs.List.{insert, remove}
use Rattle.std.specs.List.Sorted.{IsPartitionPoint, IsPartitionedBy}
use Rattle.std.specs.Option.{option_map_or}
use Rattle.std.specs.Ordering.{is_lt, nat_cmp}
use Rattle.std.specs.declared.cmp.Ordering.TheVariants.{Less, Equal}
use Rattle.std.proofs.lemmas.Bool.{eqb-true, false≢true}
use Rattle.std.proofs.lemmas.List.{get_or_default}
use Rattle.shared_rows.specs.Links.{IsSeat, with_link, without_link}
use Rattle.shared_rows.proofs.LinkLemmas.{insert_link, order_kept, remove_link, seat_before, seat_behind, seat_found, set_link, with_order}
use Rattle.shared_rows.proofs.NumberedLemmas.{number_total, rises, seat_there, seat_vacant, value_with, value_without}
use Rattle.shared_rows.proofs.NumberedLemmas.{lower_parted as numbers_parted, seat_numbered}
use Rattle.event_queue.specs.declared.object_counts.Count.{Count}
use Rattle.event_queue.specs.declared.object_counts.Entry.{Entry}
use Rattle.event_queue.specs.Entries.{AreEntries, entry_cmp, of_object}
use Rattle.event_queue.specs.Inside.{count_at}

abbrev object_of : Entry → ℕ
object_of entry = entry.object

abbrev pub none : Count
none = record { rows = 0; is_dropped = false }

pub guessed : (guess ahead len count : ℕ) → guess ≡ min ahead (len - 1) → len ≡ count → 0 < count → guess < count
guessed guess ahead len count least all some = grind (arith, least)

pub none_first : (entries : List Entry) → (0 < length entries → ◌≡◌ {A = Bool} false true) → length entries ≡ 0
none_first [] never = refl
none_first (entry ∷ entries) never = absurd (false≢true (never (omega arith)))

-- what a search finds
module _ (entries : List Entry) (object : ℕ) (order : AreEntries entries) where
  -- the entry that was looked at is of the object
  pub is_there : (at : ℕ) (entry : Entry) → at < length entries → ((d : Entry) → entry ≡ get_or entries at d) → entry.object ≡ object
      → IsSeat entry_cmp entries (of_object object) (Ok at)
  is_there at entry within is same =
      seat_found (number_total object_of) entries order (of_object object) at within
      (λ d. ap (λ (other : Entry). nat_cmp other.object object) (sym (is d)) ∙ sym (nat_cmp_is entry.object object Equal same))

  -- there is no entry, or the first or the last one shows that the object has none
  pub is_alone : length entries ≡ 0 → IsSeat entry_cmp entries (of_object object) (Err 0)
  is_alone none = (
    omega arith,
    record { below = λ k d low high. absurd (omega arith); above = λ k d low high. absurd (omega (arith, none)) },
  )

  pub is_before : (first : Entry) → first ≡ get_or entries 0 first → object < first.object → IsSeat entry_cmp entries (of_object object) (Err 0)
  is_before first is low =
      seat_before (number_total object_of) entries order (of_object object) is (ap is_lt (sym (nat_cmp_is object first.object Less low)))

  is_behind : (at : ℕ) (last : Entry) → at + 1 ≡ length entries → last ≡ get_or entries at last → last.object < object
      → IsSeat entry_cmp entries (of_object object) (Err (at + 1))
  is_behind at last all is low =
      let same : at ≡ length entries - 1 = omega arith in
      subst (λ n. IsSeat entry_cmp entries (of_object object) (Err n)) (sym all)
      (seat_behind (number_total object_of) entries order (of_object object) (omega arith) (is ∙ ap (λ n. get_or entries n last) same)
      (ap is_lt (sym (nat_cmp_is last.object object Less low))))

  -- objects are no closer to each other than the positions of their entries
  spread : (first : Entry) → first ≡ get_or entries 0 first → (k : ℕ) (d : Entry) → k < length entries → first.object + k ≤ (get_or entries k d).object
  spread first is zero d within =
      let same : first.object ≡ (get_or entries 0 d).object = ap object_of (is ∙ get_or_default entries 0 first d within) in
      omega arith
  spread first is (suc k) d within =
      omega (arith, spread first is k d (omega arith), rises object_of entries order k (suc k) d (omega arith) within)

  -- so an entry of a lower object at the position of the guess, or the last one before that, is the last
  pub is_last : (first : Entry) → first ≡ get_or entries 0 first → first.object ≤ object → (at : ℕ) (there : Entry) → at < length entries
      → (len : ℕ) → len ≡ length entries → at ≡ min (object - first.object) (len - 1) → there ≡ get_or entries at there → there.object < object
      → IsSeat entry_cmp entries (of_object object) (Err (at + 1))
  is_last first is low at there within len all guess found below =
      let far = spread first is at there within in
      let same : there.object ≡ (get_or entries at there).object = ap object_of found in
      is_behind at there (omega arith) found below

  -- those of lower objects stand before the others
  pub lower_parted : IsPartitionedBy (λ (entry : Entry). nat_lt entry.object object) entries
  lower_parted = numbers_parted object_of entries order (of_object object)

  -- where they end, if the object's entry does not stand there
  pub is_between : (at : ℕ) → at ≤ length entries → IsPartitionPoint (λ (entry : Entry). nat_lt entry.object object ≡ true)
      (λ (entry : Entry). nat_lt entry.object object ≡ false) entries at
      → ((d : Entry) → at < length entries → (get_or entries at d).object ≢ object) → IsSeat entry_cmp entries (of_object object) (Err at)
  is_between at within point differs = seat_numbered object_of entries order (of_object object) at point within differs

  -- a change at the position that was found keeps the order
  pub entry_set : (at : ℕ) (count : Count) → IsSeat entry_cmp entries (of_object object) (Ok at)
      → set entries at (record { object = object; count = count }) ≡ with_link entry_cmp entries (record { object = object; count = count })
  entry_set at count seat =
      set_link (number_total object_of) entries order (record { object = object; count = count }) at
      (seat.0, seat.1, record { below = seat.2.below; above = seat.2.above })

  pub entry_put : (at : ℕ) (count : Count) → IsSeat entry_cmp entries (of_object object) (Err at)
      → insert entries at (record { object = object; count = count }) ≡ with_link entry_cmp entries (record { object = object; count = count })
  entry_put at count seat =
      insert_link (number_total object_of) entries order (record { object = object; count = count }) at
      (seat.0, record { below = seat.1.below; above = seat.1.above })

  pub entry_gone : (at : ℕ) → IsSeat entry_cmp entries (of_object object) (Ok at)
      → remove entries at ≡ without_link entry_cmp entries (of_object object)
  entry_gone at seat = remove_link (number_total object_of) entries order (of_object object) at (of_object object) seat

  pub still_entries : (after : List Entry) (entry : Entry) → after ≡ with_link entry_cmp entries entry → AreEntries after
  still_entries after entry is = subst AreEntries (sym is) (with_order (number_total object_of) entries order entry)

  pub fewer_entries : (at : ℕ) (after : List Entry) → IsSeat entry_cmp entries (of_object object) (Ok at) → after ≡ remove entries at → AreEntries after
  fewer_entries at after seat is = order_kept entry_cmp entries at seat.0 order after is

-- entries with or without one more are in order
pub order_either : {T E : Type 0} (entries : List Entry) (object : ℕ) (after : List Entry) (entry : Entry) → AreEntries entries → (result : Result T E)
    → OnOk result (after ≡ with_link entry_cmp entries entry) → OnErr result (after ≡ entries) → AreEntries after
order_either entries object after entry order (Ok value) put same = still_entries entries object order after entry put
order_either entries object after entry order (Err error) put same = subst AreEntries (sym same) order

-- one object has this count now, and the others have those that they had
pub record HasCount (old after : List Entry) (object : ℕ) (count : Count) : Type 0 where
  pub counts : (other : ℕ) → count_at after other ≡ cond (object == other) count (count_at old other)

part : {V : Type 0} (of : Count → V) (b : Bool) (count first other : Count) → count ≡ cond b first other → of count ≡ cond b (of first) (of other)
part of true count first other e = ap of e
part of false count first other e = ap of e

-- the counts that contracts see, which are those of the entries
module _ {entries old : List Entry} (view_is : entries ≡ old) (object : ℕ) where
  pub count_was : (at : ℕ) (entry : Entry) → IsSeat entry_cmp entries (of_object object) (Ok at) → entry ≡ get_or entries at entry
      → entry.count ≡ count_at old object
  count_was at entry seat is =
      ap (λ (e : Entry). e.count) is
      ∙ (sym (ap (λ found. option_map_or (λ (e : Entry). e.count) found none) (seat_there object_of entries (of_object object) at entry seat))
      ∙ ap (λ list. count_at list object) view_is)

  pub none_was : (at : ℕ) → IsSeat entry_cmp entries (of_object object) (Err at) → none ≡ count_at old object
  none_was at seat =
      sym (ap (λ found. option_map_or (λ (e : Entry). e.count) found none) (seat_vacant object_of entries (of_object object) at seat))
      ∙ ap (λ list. count_at list object) view_is

  pub count_now : {after : List Entry} (count : Count) → after ≡ with_link entry_cmp entries (record { object = object; count = count })
      → HasCount old after object count
  count_now {after} count is = record {
    counts = λ other. value_with object_of (λ (e : Entry). e.count) none entries after (record { object = object; count = count }) is other
        ∙ ap (λ list. cond (object == other) count (count_at list other)) view_is;
  }

  pub count_left : {after : List Entry} → after ≡ without_link entry_cmp entries (of_object object) → HasCount old after object none
  count_left {after} is = record {
    counts = λ other. value_without object_of (λ (e : Entry). e.count) none entries after (of_object object) is other
        ∙ ap (λ list. cond (object == other) none (count_at list other)) view_is;
  }

  -- an object without rows has none fewer
  pub none_fewer : none ≡ count_at old object → (other : ℕ)
      → (count_at old other).rows ≡ cond (object == other) ((count_at old object).rows - 1) (count_at old other).rows
  none_fewer is other = by (object == other) refl
    where
      by : (same : Bool) → (object == other) ≡ same → (count_at old other).rows ≡ cond same ((count_at old object).rows - 1) (count_at old other).rows
      by true e =
          let here : (count_at old object).rows ≡ (count_at old other).rows = ap (λ o. (count_at old o).rows) (eqb-true object other e) in
          let rows : 0 ≡ (count_at old object).rows = ap (λ (c : Count). c.rows) is in
          omega arith
      by false e = refl

module _ {old after : List Entry} {object : ℕ} {count : Count} (now : HasCount old after object count) where
  pub marks_now : (other : ℕ) → (count_at after other).is_dropped ≡ cond (object == other) count.is_dropped (count_at old other).is_dropped
  marks_now other = part (λ (c : Count). c.is_dropped) (object == other) (count_at after other) count (count_at old other) (now.counts other)

  rows_are : (other : ℕ) → (count_at after other).rows ≡ cond (object == other) count.rows (count_at old other).rows
  rows_are other = part (λ (c : Count). c.rows) (object == other) (count_at after other) count (count_at old other) (now.counts other)

  -- as many rows name the object as its new count says
  pub rows_now : (rows : ℕ) → count.rows ≡ rows → (other : ℕ) → (count_at after other).rows ≡ cond (object == other) rows (count_at old other).rows
  rows_now rows is other = rows_are other ∙ ap (λ n. cond (object == other) n (count_at old other).rows) is

  -- an object that keeps its mark in another count keeps it
  pub marks_kept : count.is_dropped ≡ (count_at old object).is_dropped → (other : ℕ) → (count_at after other).is_dropped ≡ (count_at old other).is_dropped
  marks_kept same other = marks_now other ∙ by (object == other) refl
    where
      by : (here : Bool) → (object == other) ≡ here → cond here count.is_dropped (count_at old other).is_dropped ≡ (count_at old other).is_dropped
      by true e = same ∙ ap (λ o. (count_at old o).is_dropped) (eqb-true object other e)
      by false e = refl

  -- and so does one that rows still name, where the object has none
  pub marks_left : count.rows ≡ 0 → (other : ℕ) → 0 < (count_at after other).rows → (count_at after other).is_dropped ≡ (count_at old other).is_dropped
  marks_left gone other some = marks_now other ∙ by (object == other) (rows_are other)
    where
      by : (here : Bool) → (count_at after other).rows ≡ cond here count.rows (count_at old other).rows
          → cond here count.is_dropped (count_at old other).is_dropped ≡ (count_at old other).is_dropped
      by true rows = absurd (omega arith)
      by false rows = refl
