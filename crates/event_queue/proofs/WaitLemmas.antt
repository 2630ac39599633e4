-- The events that wait, among those of all rows.
use Rattle.std.proofs.Common.{◌≡◌, ◌∙◌, ℕ, zero, suc, ◌+◌, ◌-◌, ◌<◌, ◌≤◌, ◌==◌, ◌||◌, Bool, true, false, not, cond, List, [], ◌∷◌, ◌++◌, length, count_by}
use Rattle.std.proofs.Common.{filter, take, drop, get_or, refl, ap, arith, rules}
use Rattle.std.proofs.lemmas.Grind.{common_steps}
use Rattle.std.proofs.lemmas.Bool.Decides.{nat_tests}
use Rattle.std.proofs.lemmas.Bool.{eq-eqb, eqb-true}
use Rattle.std.proofs.lemmas.List.Elements.{filter-append}
use Rattle.std.proofs.lemmas.List.Sums.{sum_by-cons}
use Rattle.event_queue.specs.declared.event.Event.{Event}
use Rattle.event_queue.specs.Entries.{ObjectCounts}
use Rattle.event_queue.specs.Queue.{object_of, others, placed}
use Rattle.event_queue.specs.Inside.{AreCounted, IsCounted, KeepsMarks, count_of, is_dropped, waiting, waits}
use Rattle.event_queue.proofs.LawLemmas.{filter_turned}
use Rattle.event_queue.proofs.PlacedLemmas.{count_placed}

abbrev names : ℕ → Event → Bool
names object event = object_of event == object

-- the first event counts one where it passes the test
count_first : (test : Event → Bool) (event : Event) (events : List Event) → count_by test (event ∷ events) ≡ cond (test event) 1 0 + count_by test events
count_first test event events = sum_by-cons (λ e. cond (test e) 1 0) event events

-- the object of an event that has a row is counted
pub named : (object : ℕ) (held : List Event) (k : ℕ) (d : Event) → k < length held → object_of (get_or held k d) ≡ object → 0 < count_by (names object) held
named object [] k d within is = absurd (omega arith)
named object (event ∷ held) zero d within is = grind (arith, common_steps)
named object (event ∷ held) (suc k) d within is = grind (arith, common_steps)

-- of the events that wait those of an object are counted, which are none where they were dropped
pub counted_waiting : (objects : ObjectCounts) (object : ℕ) (held : List Event)
    → count_by (names object) (waiting objects held) ≡ cond (is_dropped objects object) 0 (count_by (names object) held)
counted_waiting objects object [] = none (is_dropped objects object)
  where
    none : (dropped : Bool) → ◌≡◌ {A = ℕ} 0 (cond dropped 0 0)
    none true = refl
    none false = refl
counted_waiting objects object (event ∷ held) =
    grind (
      arith,
      nat_tests,
      counted_waiting objects object held,
      count_first (names object) event held,
      count_first (names object) event (waiting objects held),
    )

-- tests that agree on the events of all rows
agree : (one other : Event → Bool) (held : List Event) → ((k : ℕ) (d : Event) → k < length held → one (get_or held k d) ≡ other (get_or held k d))
    → filter one held ≡ filter other held
agree one other [] same = refl
agree one other (event ∷ held) same = grind (arith, nat_tests, same 0 event (omega arith), agree one other held (λ k d within. same (suc k) d (omega arith)))

module _ (objects : ObjectCounts) (held : List Event) (counted : AreCounted objects held) where
  pub agree_counted : (one other : Event → Bool) → ((event : Event) → 0 < count_of objects (object_of event) → one event ≡ other event)
      → filter one held ≡ filter other held
  agree_counted one other same = grind (arith, nat_tests, agree, named)

  pub few_counted : (object : ℕ) → count_of objects object ≤ length held
  few_counted object = grind (arith, common_steps)

  -- where the marks of their objects stay the same events wait
  pub same_waiting : (before : ObjectCounts) → KeepsMarks before objects → waiting objects held ≡ waiting before held
  same_waiting before keeps = search (rules, agree_counted)

-- without the event at a position
abbrev pub without_at : List Event → ℕ → List Event
without_at held k = take k held ++ drop (suc k) held

-- what is under way: rows go, one by one, and all that are left are counted
pub record IsGoing (before now : ObjectCounts) (held : List Event) : Type 0 where
  pub counted : AreCounted now held
  pub marks : KeepsMarks before now

module _ (before now next : ObjectCounts) (held : List Event) (going : IsGoing before now held) (k : ℕ) (event : Event) (within : k < length held)
    (is : get_or held k event ≡ event) where
  -- the mark of a row's object is the one that it had
  pub mark_was : is_dropped now (object_of event) ≡ is_dropped before (object_of event)
  mark_was = grind (arith, common_steps)

  pub row_goes : IsCounted now next (object_of event) (count_of now (object_of event) - 1) → KeepsMarks now next → IsGoing before next (without_at held k)
  row_goes counted keeps = grind (arith, common_steps)

-- an event of an object that is not dropped waits
pub first_waits : (objects : ObjectCounts) (event : Event) (held : List Event) → is_dropped objects (object_of event) ≡ false
    → waiting objects (event ∷ held) ≡ event ∷ waiting objects held
first_waits objects event held stays = rw stays refl

-- no event waits of an object that is dropped
others_of_dropped : (objects : ObjectCounts) (object : ℕ) → is_dropped objects object ≡ true → (held : List Event)
    → others object (waiting objects held) ≡ waiting objects held
others_of_dropped objects object marked [] = refl
others_of_dropped objects object marked (event ∷ held) = search (rules, others_of_dropped objects object marked held, names, eqb-true)

-- nor has any such one its object
pub count_waiting : (objects : ObjectCounts) (object : ℕ) → is_dropped objects object ≡ true → (held : List Event)
    → count_by (names object) (waiting objects held) ≡ 0
count_waiting objects object marked [] = refl
count_waiting objects object marked (event ∷ held) = search (rules, count_waiting objects object marked held, count_first, names, eqb-true, first_waits)

-- all events of an object that is not dropped wait
length_others : (objects : ObjectCounts) (object : ℕ) → is_dropped objects object ≡ false → (held : List Event)
    → length (others object (waiting objects held)) + count_by (names object) held ≡ length (waiting objects held)
length_others objects object marked [] = refl
length_others objects object marked (event ∷ held) =
    grind (arith, common_steps, length_others objects object marked held, count_first, names, eqb-true, first_waits)

-- the events that pass two tests, one after the other
parted : (first second : Event → Bool) (held : List Event) → filter (λ event. not (first event || second event)) held
    ≡ filter (λ event. not (second event)) (filter (λ event. not (first event)) held)
parted first second [] = refl
parted first second (event ∷ held) = search (rules, first event, parted first second held, second event)

-- the events of an object are dropped, and so many of them waited
module _ (old new : ObjectCounts) (held : List Event) (counted : AreCounted old held) (object : ℕ)
    (same : (other : ℕ) → count_of new other ≡ count_of old other) where
  pub counted_yet : AreCounted new held
  counted_yet other = same other ∙ counted other

  pub dropped_waiting : ((other : ℕ) → 0 < count_of new other → is_dropped new other ≡ (is_dropped old other || (other == object)))
      → waiting new held ≡ others object (waiting old held)
  dropped_waiting marks =
      agree_counted new held counted_yet (waits new) (λ event. not (is_dropped old (object_of event) || names object event))
      (λ event some. ap not (marks (object_of event) some))
      ∙ parted (λ event. is_dropped old (object_of event)) (names object) held

  pub dropped_length : (waited : ℕ) → waited ≡ cond (is_dropped old object) 0 (count_of old object)
      → length (others object (waiting old held)) + waited ≡ length (waiting old held)
  dropped_length waited is = search (rules, others_of_dropped, length_others)

-- an event that waits has its place among those that wait
placed_waits : (keep : Event → Bool) (event : Event) (held : List Event) → keep event ≡ true → filter keep (placed event held) ≡ placed event (filter keep held)
placed_waits keep event held passed = search (rules, filter-append, filter_turned)

-- one row more is counted for an object, of which no row is of a dropped event
module _ (old new : ObjectCounts) (held : List Event) (counted : AreCounted old held) (object : ℕ)
    (way : 0 < count_of old object → is_dropped old object ≡ false) (added : IsCounted old new object (count_of old object + 1))
    (marks : (other : ℕ) → is_dropped new other ≡ cond (object == other) false (is_dropped old other)) where
  marks_stay : (other : ℕ) → 0 < count_of old other → is_dropped new other ≡ is_dropped old other
  marks_stay other some = search (rules, eqb-true)

  pub placed_counted : (event : Event) → object_of event ≡ object → AreCounted new (placed event held)
  placed_counted event is other = search (rules, eqb-true, names, count_placed)

  pub placed_waiting : (event : Event) → object_of event ≡ object → waiting new (placed event held) ≡ placed event (waiting old held)
  placed_waiting event is = grind (
    arith,
    nat_tests,
    eq-eqb object object refl,
    placed_waits (waits new) event held,
    agree_counted old held counted (waits new) (waits old),
    marks_stay,
  )

  -- and one fewer again
  pub back_going : (back : ObjectCounts) → IsCounted new back object (count_of new object - 1) → KeepsMarks new back → IsGoing old back held
  back_going back subtracted keeps = search (rules, marks_stay)
