-- The events of a place in their order.
use Rattle.std.proofs.Common.{◌≡◌, ◌≢◌, ◌∙◌, ℕ, zero, suc, ◌+◌, ◌<◌, ◌≤◌, ◌-◌, ◌==◌, Bool, true, false, not, List, [], ◌∷◌, ◌++◌, Some, length, map, filter}
use Rattle.std.proofs.Common.{take, drop, get_or, refl, sym, ap, arith, rules}
use Rattle.std.proofs.lemmas.Grind.{common_steps}
use Rattle.std.proofs.lemmas.Bool.Decides.{nat_tests}
use Rattle.std.specs.List.{All, AllPairs, slice_get}
use Rattle.std.proofs.lemmas.Bool.{eq-eqb, ne_eqb}
use Rattle.std.proofs.lemmas.List.{get_or-map, length-map}
use Rattle.std.proofs.lemmas.List.Kept.{AllPairs-filter}
use Rattle.std.proofs.lemmas.List.Sums.{count_by-le-length, length-filter}
use Rattle.shared_rows.specs.Table.{ChangesAt, IsPlace, Table, with_place}
use Rattle.shared_rows.proofs.ForCallers.{changes_open, changes_twice, with_there}
use Rattle.shared_rows.specs.Rows.{IsAtPosition, Keyed, row_under, rows_at, without}
use Rattle.event_queue.specs.declared.event.Event.{Event}
use Rattle.event_queue.specs.declared.event.QueuedEvent.{QueuedEvent}
use Rattle.event_queue.specs.Entries.{ObjectCounts}
use Rattle.event_queue.specs.Queue.{object_of}
use Rattle.event_queue.specs.Inside.{AreCounted, HasEvents, HasWaiting, IsCounted, KeepsMarks, count_of, events_at, events_of, is_dropped, waiting, waits}
use Rattle.event_queue.proofs.LawLemmas.{filter_even}
use Rattle.event_queue.proofs.WaitLemmas.{IsGoing, count_waiting, first_waits, mark_was, row_goes, same_waiting, without_at}

module _ {X : Type 0} (keep : X → Bool) where
  -- those from a position on are sifted
  abbrev pub sifted : List X → ℕ → List X
  sifted items position = take position items ++ filter keep (drop position items)

  pub sifted_at : (items : List X) (position : ℕ) (d : X) → position < length items → get_or (sifted items (suc position)) position d ≡ get_or items position d
  sifted_at [] position d within = absurd (omega arith)
  sifted_at (item ∷ items) zero d within = refl
  sifted_at (item ∷ items) (suc position) d within = sifted_at items position d (omega arith)

  pub sifted_kept : (items : List X) (position : ℕ) (d : X) → position < length items → keep (get_or items position d) ≡ true
      → sifted items (suc position) ≡ sifted items position
  sifted_kept [] position d within kept = absurd (omega arith)
  sifted_kept (item ∷ items) zero d within kept = rw kept refl
  sifted_kept (item ∷ items) (suc position) d within kept = search (rules, sifted_kept items position d (omega arith) kept)

  pub sifted_gone : (items : List X) (position : ℕ) (d : X) → position < length items → keep (get_or items position d) ≡ false
      → take position (sifted items (suc position)) ++ drop (suc position) (sifted items (suc position)) ≡ sifted items position
  sifted_gone [] position d within gone = absurd (omega arith)
  sifted_gone (item ∷ items) zero d within gone = rw gone refl
  sifted_gone (item ∷ items) (suc position) d within gone = search (rules, sifted_gone items position d (omega arith) gone)

module _ {R X : Type 0} (f : R → X) where
  abbrev Shown : List (Keyed R) → List X
  Shown rows = map (λ keyed. f keyed.row) rows

  -- without the key of no row nothing goes
  without_none : (rows : List (Keyed R)) (key : ℕ) → All (λ keyed. keyed.key ≢ key) rows → without rows key ≡ rows
  without_none [] key apart = refl
  without_none (first ∷ rows) key apart =
      let other : (first.key == key) ≡ false = ne_eqb first.key key (apart 0 first (omega arith)) in
      rw other (ap (λ rest. first ∷ rest) (without_none rows key (λ k d within. apart (suc k) d (omega arith))))

  -- without the key of a row that row goes, and no other
  pub shown_without : (rows : List (Keyed R)) → AllPairs (λ earlier later. earlier.key ≢ later.key) rows → (at key : ℕ) (row : R) → at < length rows
      → IsAtPosition rows at key row
      → Shown (without rows key) ≡ take at (Shown rows) ++ drop (suc at) (Shown rows)
  shown_without [] apart at key row within is = absurd (omega arith)
  shown_without (first ∷ rows) apart zero key row within is =
      let same : first.key ≡ key = ap (λ (keyed : Keyed R). keyed.key) (is first) in
      let here : (first.key == key) ≡ true = eq-eqb first.key key same in
      rw here (ap Shown (without_none rows key (λ k d inner equal. apart 0 (suc k) d (omega arith) (omega arith) (same ∙ sym equal))))
  shown_without (first ∷ rows) apart (suc at) key row within is =
      let there : (get_or rows at first).key ≡ key = ap (λ (keyed : Keyed R). keyed.key) (is first) in
      let other : (first.key == key) ≡ false = ne_eqb first.key key (λ same. apart 0 (suc at) first (omega arith) within (same ∙ sym there)) in
      rw other (ap (λ rest. f first.row ∷ rest)
      (shown_without rows (λ i j d lt inner. apart (suc i) (suc j) d (omega arith) (omega arith)) at key row (omega arith) is))

-- a place with other rows has their events
pub has_events : (old new : Table (List (Keyed QueuedEvent))) (place : ℕ) (rows : List (Keyed QueuedEvent)) (events : List Event) → IsPlace old place
    → new ≡ with_place old place rows → events_of rows ≡ events → HasEvents old new place events
has_events old new place rows events is_place is shown = grind (arith, common_steps)

-- the row that is found under the key of the first has the first event
pub first_event : (rows : List (Keyed QueuedEvent)) (key : ℕ) (row found : QueuedEvent) → 0 < length rows → IsAtPosition rows 0 key row
    → row_under rows key ≡ Some found → Some found.event ≡ slice_get (events_of rows) 0
first_event [] key row found some is under = absurd (omega arith)
first_event (first ∷ rows) key row found some is under = search (rules, is first, eq-eqb)

-- from the last event down to here those that do not wait are swept out
pub record IsSweeping (old now : Table (List (Keyed QueuedEvent))) (place : ℕ) (before after : ObjectCounts) (left : ℕ) : Type 0 where
  pub within : left ≤ length (events_at old place)
  pub apart : AllPairs (λ earlier later. earlier.key ≢ later.key) (rows_at now place)
  pub has : HasEvents old now place (sifted (waits before) (events_at old place) left)
  pub going : IsGoing before after (events_at now place)

-- a place after rows went, and what waits there now
pub has_waiting : (old now : Table (List (Keyed QueuedEvent))) (place : ℕ) (before after : ObjectCounts) (events : List Event) → ChangesAt [] place old now
    → IsGoing before after (events_at now place)
    → waiting before (events_at now place) ≡ events → length (events_at now place) + length (waiting before (events_at old place)) ≤ length
    (events_at old place) + length events → HasWaiting old now place before after events
has_waiting old now place before after events changed going waits fewer = search (rules, same_waiting)

module _ {old : Table (List (Keyed QueuedEvent))} {place : ℕ} {before : ObjectCounts} where
  module _ {now : Table (List (Keyed QueuedEvent))} {after : ObjectCounts} where
    module _ {left : ℕ} (under : IsSweeping old now place before after left) (none : left ≡ 0) where
      pub sweep_ends : HasWaiting old now place before after (waiting before (events_at old place))
      sweep_ends = search (rules, has_waiting, filter_even (waits before) (waits before) true, length-filter, count_by-le-length)

    pub sweep_on : {left : ℕ} → IsSweeping old now place before after left → 0 < left → IsSweeping old now place before after (suc (left - 1))
    sweep_on {left} under some = grind (arith, common_steps)

    module _ {position : ℕ} (is_place : IsPlace old place) (under : IsSweeping old now place before after (suc position)) where
      pub place_there : IsPlace now place
      place_there = changes_open [] old now place under.has.changed is_place

      inside : position < length (events_at old place)
      inside = omega arith

      event_there : position < length (events_at now place)
      event_there = grind (arith, common_steps)

      pub row_there : position < length (rows_at now place)
      row_there = search (rules, event_there, length-map)

      module _ {key : ℕ} {row : QueuedEvent} (at : IsAtPosition (rows_at now place) position key row) where
        event_is : get_or (events_at now place) position row.event ≡ row.event
        event_is =
            get_or-map (λ keyed. keyed.row.event) (rows_at now place) position (record { key = key; row = row }) row.event row_there
            ∙ ap (λ (keyed : Keyed QueuedEvent). keyed.row.event) (at (record { key = key; row = row }))

        event_was : get_or (events_at old place) position row.event ≡ row.event
        event_was = search (rules, sifted_at, event_is)

        waited : (b : Bool) → is_dropped after (object_of row.event) ≡ b → waits before (get_or (events_at old place) position row.event) ≡ not b
        waited b is = ap (waits before) event_was
            ∙ ap not (sym (mark_was before after after (events_at now place) under.going position row.event event_there event_is) ∙ is)

        -- an event that waits stays
        pub sweep_passes : is_dropped after (object_of row.event) ≡ false → IsSweeping old now place before after position
        sweep_passes waits_yet = grind (
          arith,
          nat_tests,
          sifted_kept (waits before) (events_at old place) position row.event inside (waited false waits_yet),
          waited false waits_yet,
        )

        -- and one that was dropped goes
        pub sweep_drops : {now' : Table (List (Keyed QueuedEvent))} (next : ObjectCounts) → is_dropped after (object_of row.event) ≡ true
            → now' ≡ with_place now place (without (rows_at now place) key)
            → IsCounted after next (object_of row.event) (count_of after (object_of row.event) - 1) → KeepsMarks after next
            → IsSweeping old now' place before next position
        sweep_drops {now'} next gone is counted keeps =
            let shown = shown_without (λ (posted : QueuedEvent). posted.event) (rows_at now place) under.apart position key row row_there at in
            let without_it = has_events now now' place (without (rows_at now place) key) (without_at (events_at now place) position) place_there is shown in
            let left : rows_at now' place ≡ without (rows_at now place) key = ap (λ t. rows_at t place) is
            ∙ with_there [] now place (without (rows_at now place) key) place_there in
            let apart = AllPairs-filter (λ (earlier later : Keyed QueuedEvent). earlier.key ≢ later.key) (λ keyed. not (keyed.key == key))
            (rows_at now place) under.apart in
            let goes = row_goes before after next (events_at now place) under.going position row.event event_there event_is counted keeps in
            let sifts = sifted_gone (waits before) (events_at old place) position row.event inside (waited true gone) in
            grind (arith, common_steps, changes_twice, without_it, left, apart, goes, sifts, under.has)

-- the rows before the first event that waits are taken out
pub record IsTaking (old now : Table (List (Keyed QueuedEvent))) (place : ℕ) (before after : ObjectCounts) : Type 0 where
  pub changed : ChangesAt [] place old now
  pub going : IsGoing before after (events_at now place)
  pub waits : waiting before (events_at now place) ≡ waiting before (events_at old place)
  pub fewer : length (events_at now place) ≤ length (events_at old place)

module _ {old : Table (List (Keyed QueuedEvent))} {place : ℕ} {before : ObjectCounts} where
  module _ {now : Table (List (Keyed QueuedEvent))} {after : ObjectCounts} (under : IsTaking old now place before after) where
    module _ {now' : Table (List (Keyed QueuedEvent))} (has : HasEvents now now' place (drop 1 (events_at now place))) where
      changed_on : ChangesAt [] place old now'
      changed_on = search (rules, changes_twice)

      module _ {event : Event} (first : slice_get (events_at now place) 0 ≡ Some event) (next : ObjectCounts)
          (counted : IsCounted after next (object_of event) (count_of after (object_of event) - 1)) (keeps : KeepsMarks after next) where
        pub record IsFirst (rest : List Event) : Type 0 where
          pub now_is : events_at now place ≡ event ∷ rest
          pub next_is : events_at now' place ≡ rest
          pub going : IsGoing before next (events_at now' place)
          pub mark : is_dropped after (object_of event) ≡ is_dropped before (object_of event)

        first_row : (rest : List Event) × IsFirst rest
        first_row = by (events_at now place) refl first
          where
            by : (held : List Event) → events_at now place ≡ held → slice_get held 0 ≡ Some event → (rest : List Event) × IsFirst rest
            by [] is none = absurd (cc)
            by (head ∷ rest) is some =
                let same : head ≡ event = cc in
                let going = row_goes before after next (events_at now place) under.going 0 event in
                let mark = mark_was before after next (events_at now place) under.going 0 event in
                (rest, grind (arith, common_steps, is, same, has.now, going, mark, counted, keeps))

        pub taking_less : length (events_at now' place) < length (events_at now place)
        taking_less = search (rules, first_row)

        -- the first event does not wait
        pub taking_on : is_dropped after (object_of event) ≡ true → IsTaking old now' place before next
        taking_on gone = search (rules, first_row, changed_on, taking_less)

        -- and where it waits it is the first that does
        pub taking_first : is_dropped after (object_of event) ≡ false
            → (Some event ≡ slice_get (waiting before (events_at old place)) 0)
            × HasWaiting old now' place before next (drop 1 (waiting before (events_at old place)))
        taking_first stays = grind (
          arith,
          nat_tests,
          first_row,
          first_waits before event,
          has_waiting old now' place before next (drop 1 (waiting before (events_at old place))) changed_on,
          taking_less,
        )

-- where as many rows stand as events wait, or all others were swept out, no object that has a row is dropped
module _ (objects : ObjectCounts) (held : List Event) (counted : AreCounted objects held) (all : held ≡ waiting objects held) where
  pub none_dropped : (object : ℕ) → 0 < count_of objects object → is_dropped objects object ≡ false
  none_dropped object some = search (rules, count_waiting)

pub all_waiting : (objects : ObjectCounts) (held : List Event) → length held ≤ length (waiting objects held) → held ≡ waiting objects held
all_waiting objects [] le = refl
all_waiting objects (event ∷ held) le = search (rules, all_waiting objects held, length-filter, count_by-le-length, first_waits)
