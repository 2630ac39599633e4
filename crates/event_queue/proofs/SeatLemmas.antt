-- Where the row of an event stands among the rows of its place.
use Rattle.std.proofs.Common.{◌≡◌, ◌≢◌, ◌∙◌, ℕ, suc, ◌+◌, ◌-◌, ◌*◌, ◌/◌, ◌^◌, ◌<◌, ◌≤◌, ◌==◌, Bool, true, false, not, nat_lt, List, [], ◌∷◌, ◌++◌, None, length}
use Rattle.std.proofs.Common.{filter, get_or, inl, refl, sym, ap, arith, rules}
use Rattle.std.proofs.lemmas.Grind.{common_steps}
use Rattle.std.specs.List.{All, AllWithin}
use Rattle.std.proofs.lemmas.Bool.{cases_lt, ne_eqb}
use Rattle.std.proofs.lemmas.Bool.Decides.{nat_tests}
use Rattle.std.proofs.lemmas.List.{map-append}
use Rattle.std.proofs.lemmas.List.Elements.{All-map}
use Rattle.shared_rows.specs.Rows.{IsAtPosition, IsSound, Keyed, added, inserted, key_of}
use Rattle.event_queue.specs.declared.event.Event.{Event}
use Rattle.event_queue.specs.declared.event.QueuedEvent.{QueuedEvent}
use Rattle.event_queue.specs.Queue.{is_before, placed, priority_of, rank_of}
use Rattle.event_queue.specs.Inside.{IsCountBelow, IsSeat, events_of, number_of}
use Rattle.event_queue.proofs.PlacedLemmas.{placed_last}

-- what is below the end of a priority is not of a lower one
below_end : (posted : QueuedEvent) (rank : ℕ) → number_of posted < rank * 2 ^ 62 + 2 ^ 62 → rank_of (priority_of posted.event) ≤ rank
below_end posted rank below = omega (arith, below)

behind_end : (posted : QueuedEvent) (rank : ℕ) → rank * 2 ^ 62 + 2 ^ 62 ≤ number_of posted → rank < rank_of (priority_of posted.event)
behind_end posted rank behind = omega arith

-- of rows that pass a test the events are those that pass one that agrees
shown_filter : (test : Keyed QueuedEvent → Bool) (keep : Event → Bool) (rows : List (Keyed QueuedEvent)) → All (λ keyed. test keyed ≡ keep keyed.row.event) rows
    → events_of (filter test rows) ≡ filter keep (events_of rows)
shown_filter test keep [] agree = refl
shown_filter test keep (first ∷ rows) agree =
    grind (arith, nat_tests, agree 0 first (omega arith), shown_filter test keep rows (λ k d within. agree (suc k) d (omega arith)))

key_absent : (rows : List (Keyed QueuedEvent)) (number : ℕ) → All (λ keyed. number_of keyed.row ≢ number) rows → key_of number_of rows number ≡ None
key_absent [] number apart = refl
key_absent (first ∷ rows) number apart =
    let other : (number_of first.row == number) ≡ false = ne_eqb (number_of first.row) number (apart 0 first (omega arith)) in
    rw other (key_absent rows number (λ k d within. apart (suc k) d (omega arith)))

module _ (rows : List (Keyed QueuedEvent)) (row : QueuedEvent) (start : ℕ) (is : start ≡ rank_of (priority_of row.event) * 2 ^ 62)
    (low : number_of row < start + 2 ^ 62) (seat : IsSeat rows (number_of row) (start + 2 ^ 62)) where
  -- a row of the number stands where the event has its place
  pub shown_inserted : (key : ℕ) → events_of (inserted number_of rows key row) ≡ placed row.event (events_of rows)
  shown_inserted key =
      map-append (λ (keyed : Keyed QueuedEvent). keyed.row.event) (filter (λ keyed. nat_lt (number_of keyed.row) (number_of row)) rows)
      (record { key = key; row = row } ∷ filter (λ keyed. nat_lt (number_of row) (number_of keyed.row)) rows)
      ∙ (ap (λ front. front ++ row.event ∷ events_of (filter (λ keyed. nat_lt (number_of row) (number_of keyed.row)) rows))
      (shown_filter (λ keyed. nat_lt (number_of keyed.row) (number_of row)) (λ earlier. is_before earlier row.event) rows front)
      ∙ ap (λ rest. filter (λ earlier. is_before earlier row.event) (events_of rows) ++ row.event ∷ rest)
      (shown_filter (λ keyed. nat_lt (number_of row) (number_of keyed.row)) (λ earlier. not (is_before earlier row.event)) rows back))
    where
      front : All (λ keyed. nat_lt (number_of keyed.row) (number_of row) ≡ is_before keyed.row.event row.event) rows
      front k d within = let lower = below_end (get_or rows k d).row in let higher = behind_end (get_or rows k d).row in
          grind (arith, nat_tests, is, low, seat k d within, lower (rank_of (priority_of row.event)), higher (rank_of (priority_of row.event)))

      back : All (λ keyed. nat_lt (number_of row) (number_of keyed.row) ≡ not (is_before keyed.row.event row.event)) rows
      back k d within = let lower = below_end (get_or rows k d).row in let higher = behind_end (get_or rows k d).row in
          grind (arith, nat_tests, is, low, seat k d within, lower (rank_of (priority_of row.event)), higher (rank_of (priority_of row.event)))

  -- no row has the number yet
  pub number_absent : key_of number_of rows (number_of row) ≡ None
  number_absent = search (rules, key_absent)

  module _ (count : IsCountBelow rows (start + 2 ^ 62) (length rows)) where
    -- where no row is of a lower priority the event stands behind all others
    pub shown_added : (key : ℕ) → events_of (added rows key row) ≡ placed row.event (events_of rows)
    shown_added key =
        map-append (λ (keyed : Keyed QueuedEvent). keyed.row.event) rows (record { key = key; row = row } ∷ [])
        ∙ sym (placed_last row.event (events_of rows)
        (All-map (λ earlier. is_before earlier row.event ≡ true) (λ (keyed : Keyed QueuedEvent). keyed.row.event) rows before))
      where
        before : All (λ keyed. is_before keyed.row.event row.event ≡ true) rows
        before k d within =
            let no_lower = below_end (get_or rows k d).row (rank_of (priority_of row.event)) (omega (arith, count.below k d (omega arith) within)) in
            grind (arith, nat_tests, no_lower)

-- the row that is made for an event, of a number of its priority that has a seat
module _ (rows : List (Keyed QueuedEvent)) (event : Event) (number start : ℕ) (is : start ≡ rank_of (priority_of event) * 2 ^ 62) (few : number < 2 ^ 62)
    (seat : IsSeat rows (start + number) (start + 2 ^ 62)) where
  abbrev made : QueuedEvent
  made = record { number = number; event = event }

  numbered : number_of made ≡ start + number
  numbered = omega arith

  in_end : number_of made < start + 2 ^ 62
  in_end = omega (arith, numbered)

  seated : IsSeat rows (number_of made) (start + 2 ^ 62)
  seated = grind (arith, common_steps)

  pub made_absent : key_of number_of rows (number_of made) ≡ None
  made_absent = number_absent rows made start is in_end seated

  pub made_inserted : (key : ℕ) → events_of (inserted number_of rows key made) ≡ placed event (events_of rows)
  made_inserted = shown_inserted rows made start is in_end seated

  pub made_added : IsCountBelow rows (start + 2 ^ 62) (length rows) → (key : ℕ) → events_of (added rows key made) ≡ placed event (events_of rows)
  made_added = shown_added rows made start is in_end seated

-- where all rows are below a number of the event's priority or a higher one, the event stands behind them
module _ (rows : List (Keyed QueuedEvent)) (event : Event) (next start number : ℕ) (is : start ≡ rank_of (priority_of event) * 2 ^ 62)
    (below : All (λ keyed. number_of keyed.row < next) rows) (room : next < start + 2 ^ 62) (least : number ≡ next - start) where
  above_all : number < 2 ^ 62
  above_all = omega arith

  pub made_above : All (λ keyed. number_of keyed.row < number_of (record { number = number; event = event })) rows
  made_above k d within = omega (arith, below k d within, numbered rows event number start is above_all behind_all)
    where
      behind_all : IsSeat rows (start + number) (start + 2 ^ 62)
      behind_all k d within = inl (omega (arith, below k d within))

  pub made_last : (key : ℕ) → events_of (added rows key (record { number = number; event = event })) ≡ placed event (events_of rows)
  made_last = made_added rows event number start is above_all (λ k d within. inl (omega (arith, below k d within)))
      (record {
        in_range = omega arith;
        below = λ k d low high. omega (arith, below k d high);
        above = λ k d low high. absurd (omega arith);
      })

-- rows rise, so all are below the number after the last one's
pub below_next : (rows : List (Keyed QueuedEvent)) → IsSound number_of rows → (len at key next : ℕ) (row : QueuedEvent) → len ≡ length rows → len ≡ at + 1
    → IsAtPosition rows at key row → next ≡ number_of row + 1 → All (λ keyed. number_of keyed.row < next) rows
below_next rows sound len at key next row all is stands more k d within =
    grind (arith, nat_tests, stands d, sound.rising k at d, within, all, is, more, cases_lt k at)

module _ (rows : List (Keyed QueuedEvent)) (end : ℕ) where
  pub last_below : (count at key : ℕ) (row : QueuedEvent) → IsCountBelow rows end count → count ≡ at + 1 → IsAtPosition rows at key row → number_of row < end
  last_below count at key row below is stands =
      let d : Keyed QueuedEvent = record { key = key; row = row } in
      let under = below.below at d (omega arith) (omega arith) in
      let same : number_of (get_or rows at d).row ≡ number_of row = ap (λ (keyed : Keyed QueuedEvent). number_of keyed.row) (stands d) in
      omega arith

  -- a number above that of the last row below the end
  pub seat_behind : IsSound number_of rows → (count at number key : ℕ) (row : QueuedEvent) → IsCountBelow rows end count → count ≡ at + 1
      → IsAtPosition rows at key row → number_of row < number → IsSeat rows number end
  seat_behind sound count at number key row below is stands above k d within =
      grind (arith, nat_tests, stands d, sound.rising k, below.in_range, below.above k d)

-- all rows before `low` are below the number, all from `high` on are not, and the next look is between
pub record IsLooking (rows : List (Keyed QueuedEvent)) (number low high at : ℕ) : Type 0 where
  pub in_range : (low ≤ high) × (high ≤ length rows)
  pub between : low < high → (low ≤ at) × (at < high)
  pub below : AllWithin (λ keyed. number_of keyed.row < number) rows 0 low
  pub above : AllWithin (λ keyed. number ≤ number_of keyed.row) rows high (length rows)

module _ (rows : List (Keyed QueuedEvent)) (sound : IsSound number_of rows) (number : ℕ) where
  module _ (low high at next key : ℕ) (row : QueuedEvent) (looking : IsLooking rows number low high at) (some : low < high)
      (stands : IsAtPosition rows at key row) where
    within : at < length rows
    within = omega (arith, (looking.between some).1)

    -- what stands before a row that is below is below
    pub look_right : number_of row < number → next ≡ at + 1 + (high - (at + 1)) / 2 → IsLooking rows number (at + 1) high next
    look_right under is = record {
      in_range = (omega (arith, (looking.between some).1), looking.in_range.1);
      between = λ left. (omega arith, omega arith);
      below = λ k d from until. grind (arith, nat_tests, stands d, sound.rising k at d, within, cases_lt k at);
      above = looking.above;
    }

    -- and what stands behind one that is not is not
    pub look_left : number ≤ number_of row → next ≡ low + (at - low) / 2 → IsLooking rows number low at next
    look_left over is = record {
      in_range = ((looking.between some).0, omega (arith, within));
      between = λ left. (omega arith, omega arith);
      below = looking.below;
      above = λ k d from until. grind (arith, nat_tests, stands d, sound.rising at k d, within, cases_lt at k);
    }
