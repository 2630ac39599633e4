-- The queues in rows and logs.
use Rattle.std.proofs.Common.{◌≡◌, ◌∙◌, ℕ, ◌+◌, ◌-◌, ◌*◌, ◌^◌, ◌<◌, ◌≤◌, ◌==◌, ◌||◌, List, [], ◌∷◌, length, count_by, drop, true, false, cond, None}
use Rattle.std.proofs.Common.{Some, get_or, set, refl, sym, ap, subst, arith, rules}
use Rattle.std.proofs.lemmas.Grind.{common_steps}
use Rattle.std.specs.List.{slice_get}
use Rattle.std.proofs.lemmas.Bool.Decides.{nat_tests}
use Rattle.std.proofs.lemmas.List.{length-drop, length-map, length-set, length_push}
use Rattle.shared_rows.specs.Paired.{paired_tables}
use Rattle.shared_rows.specs.Table.{ChangesAt, IsPlace, Table, opened, with_place}
use Rattle.shared_rows.proofs.ForCallers.{changes_length, changes_same, changes_twice, with_same}
use Rattle.shared_rows.proofs.ForCallers.{each_opened, each_with, pairs_at, pairs_length, pairs_opened, pairs_with}
use Rattle.shared_rows.specs.Rows.{Keyed, rows_at}
use Rattle.event_queue.specs.declared.event.Event.{Event}
use Rattle.event_queue.specs.declared.event.QueuedEvent.{QueuedEvent}
use Rattle.event_queue.specs.Entries.{ObjectCounts}
use Rattle.event_queue.specs.declared.table.Log.{Log}
use Rattle.event_queue.specs.declared.table.TheConstants.{EVENTS}
use Rattle.event_queue.specs.Queue.{IsSound, Queue, counts_of, dropped, empty_queue, has_room, noted, object_of, others, placed, enqueued, taken, with_lost}
use Rattle.event_queue.specs.Queue.{with_mismatched}
use Rattle.event_queue.specs.Table.{queue_at, with_queue}
use Rattle.event_queue.specs.Inside.{AreCounted, AreLogged, HasEvents, HasWaiting, IsCounted, IsLogged, KeepsMarks, count_at, count_of, events_at, events_of}
use Rattle.event_queue.specs.Inside.{is_dropped, queue_of, waiting}
use Rattle.event_queue.proofs.OrderLemmas.{has_waiting}
use Rattle.event_queue.proofs.PlacedLemmas.{length_placed}
use Rattle.event_queue.proofs.WaitLemmas.{back_going, counted_waiting, counted_yet, dropped_length, dropped_waiting, few_counted, placed_counted}
use Rattle.event_queue.proofs.WaitLemmas.{placed_waiting}

-- one change of a place after another
module _ {old middle : Table (List (Keyed QueuedEvent))} {place : ℕ} {before between : ObjectCounts} {events : List Event}
    (one : HasWaiting old middle place before between events) where
  pub waits_twice : {new : Table (List (Keyed QueuedEvent))} {after : ObjectCounts} {events' : List Event} → HasWaiting middle new place between after events'
      → HasWaiting old new place before after events'
  waits_twice {new} two = search (rules, changes_twice)

  -- no more is counted, as memory was short
  pub waits_same : (after : ObjectCounts) → ((other : ℕ) → count_at after other ≡ count_at between other) → HasWaiting old middle place before after events
  waits_same after same = search (rules, waits_twice, has_waiting, changes_same)

  -- one more event has its place
  module _ (after : ObjectCounts) (object : ℕ) (way : 0 < count_of between object → is_dropped between object ≡ false)
      (added : IsCounted between after object (count_of between object + 1))
      (marks : (other : ℕ) → is_dropped after other ≡ cond (object == other) false (is_dropped between other)) where
    pub waits_placed : {new : Table (List (Keyed QueuedEvent))} (event : Event) → object_of event ≡ object
        → HasEvents middle new place (placed event (events_at middle place)) → HasWaiting old new place before after (placed event events)
    waits_placed {new} event is has = grind (
      arith,
      nat_tests,
      changes_twice,
      placed_counted between after (events_at middle place) one.counted object way added marks event is,
      placed_waiting between after (events_at middle place) one.counted object way added marks event is,
      length_placed event (events_at middle place),
      length_placed event events,
    )

    -- or there is no memory for it, and one fewer is counted again
    pub waits_back : (back : ObjectCounts) → IsCounted after back object (count_of after object - 1) → KeepsMarks after back
        → HasWaiting old middle place before back events
    waits_back back subtracted keeps =
        waits_twice (has_waiting middle middle place between back events (changes_same [] middle middle place refl)
        (back_going between after (events_at middle place) one.counted object way added marks back subtracted keeps) one.waits
        (omega (arith, ap length one.waits)))

module _ {rows : Table (List (Keyed QueuedEvent))} {logs : Table Log} (are : AreLogged rows logs) {table : Table Queue}
    (view_is : paired_tables queue_of rows logs ≡ table) {place : ℕ} (is_place : IsPlace table place) where
  pub of_rows : IsPlace rows place
  of_rows = omega (arith, pairs_length queue_of rows logs are.same view_is)

  pub of_logs : IsPlace logs place
  of_logs = omega (arith, of_rows)

  -- what contracts see of the place
  pub seen : {log : Log} → ((d : Log) → log ≡ get_or logs.places place d) → queue_at table place ≡ queue_of (rows_at rows place) log
  seen {log} is =
      pairs_at queue_of rows logs are.same view_is place [] log empty_queue of_rows ∙ ap (queue_of (rows_at rows place)) (sym (is log))

  -- how many of its events name an object
  pub waits_for : {log : Log} → ((d : Log) → log ≡ get_or logs.places place d) → (object : ℕ)
      → cond (is_dropped log.objects object) 0 (count_of log.objects object) ≡ count_by (λ event. object_of event == object) (queue_at table place).events
  waits_for {log} is object =
      ap (cond (is_dropped log.objects object) 0) ((subst (IsLogged (events_at rows place)) (sym (is log)) (are.each place log of_rows)).counted object)
      ∙ (sym (counted_waiting log.objects object (events_at rows place))
      ∙ ap (λ (q : Queue). count_by (λ event. object_of event == object) q.events) (sym (seen is)))

  -- and what holds of it
  pub logged : {log : Log} → ((d : Log) → log ≡ get_or logs.places place d) → IsLogged (events_at rows place) log
  logged {log} is = subst (IsLogged (events_at rows place)) (sym (is log)) (are.each place log of_rows)

  -- the events stand as they stood
  pub same_events : HasEvents rows rows place (events_at rows place)
  same_events = grind (arith, common_steps)

  -- rows and logs after a change at the place
  pub record IsAfter (rows' : Table (List (Keyed QueuedEvent))) (logs' : Table Log) (queue : Queue) : Type 0 where
    pub kept : AreLogged rows' logs'
    pub view : paired_tables queue_of rows' logs' ≡ with_queue table place queue

  module _ (rows' : Table (List (Keyed QueuedEvent))) (events : List Event) (has : HasEvents rows rows' place events) (log : Log) (holds : IsLogged events log)
      (queue : Queue) (is : record { events = waiting log.objects events; lost = log.lost; mismatched = log.mismatched } ≡ queue) where
    pub after : IsAfter rows' (with_place logs place log) queue
    after = record { kept = kept; view = view }
      where
        kept : AreLogged rows' (with_place logs place log)
        kept = record {
          same = omega (arith, changes_length [] rows rows' place has.changed, length-set logs.places place log);
          each = λ other d within.
              subst (λ (t : Table (List (Keyed QueuedEvent))). IsLogged (events_at t other) (get_or (set logs.places place log) other d)) (sym has.changed)
              (each_with (λ list log. IsLogged (events_of list) log) rows.places logs.places [] are.same are.each place (rows_at rows' place) log of_rows
              (subst (λ list. IsLogged list log) (sym has.now) holds) other d (omega (arith, changes_length [] rows rows' place has.changed)));
        }

        view : paired_tables queue_of rows' (with_place logs place log) ≡ with_queue table place queue
        view =
            ap (λ t. paired_tables queue_of t (with_place logs place log)) has.changed
            ∙ (pairs_with queue_of rows logs are.same view_is place (rows_at rows' place) log
            ∙ ap (with_queue table place) (ap (λ list. record { events = waiting log.objects list; lost = log.lost; mismatched = log.mismatched }) has.now
            ∙ is))

  module _ {log : Log} (stood : (d : Log) → log ≡ get_or logs.places place d) where
    -- only what was noted changes
    noted_log : (lost mismatched : ℕ) → lost < 2 ^ 64 → mismatched < 2 ^ 64 → (queue : Queue)
        → record { events = waiting log.objects (events_at rows place); lost = lost; mismatched = mismatched } ≡ queue
        → IsAfter rows (with_place logs place (record log { lost = lost; mismatched = mismatched })) queue
    noted_log lost mismatched short_lost short_mismatched queue is =
        let holds = logged stood in
        after rows (events_at rows place) same_events (record log { lost = lost; mismatched = mismatched })
        (record {
          few = holds.few;
          queued = holds.queued;
          few_rows = holds.few_rows;
          counted = holds.counted;
          lost = short_lost;
          mismatched = short_mismatched;
        })
        queue is

    pub lost_noted : {count : ℕ} → count ≡ noted log.lost → IsAfter rows (with_place logs place (record log { lost = count }))
        (with_lost (queue_at table place))
    lost_noted {count} is = noted_log count log.mismatched (omega arith) (logged stood).mismatched (with_lost (queue_at table place))
        (ap (λ n. record { events = waiting log.objects (events_at rows place); lost = n; mismatched = log.mismatched }) is ∙ ap with_lost (sym (seen stood)))

    pub mismatched_noted : {count : ℕ} → count ≡ noted log.mismatched
        → IsAfter rows (with_place logs place (record log { mismatched = count })) (with_mismatched (queue_at table place))
    mismatched_noted {count} is = noted_log log.lost count (logged stood).lost (omega arith) (with_mismatched (queue_at table place))
        (ap (λ n. record { events = waiting log.objects (events_at rows place); lost = log.lost; mismatched = n }) is ∙ ap with_mismatched (sym (seen stood)))

    pub all_cleared : {rows' : Table (List (Keyed QueuedEvent))} → HasEvents rows rows' place [] → {new : Log} → new.lost ≡ 0 → new.mismatched ≡ 0
        → IsLogged [] new → IsAfter rows' (with_place logs place new) empty_queue
    all_cleared {rows'} has {new} lost mismatched holds = after rows' [] has new holds empty_queue (rw (lost, mismatched) refl)

    -- a log of other counts, by which these events wait
    module _ (rows' : Table (List (Keyed QueuedEvent))) (changed : ChangesAt [] place rows rows') (objects : ObjectCounts)
        (counted : AreCounted objects (events_at rows' place)) (events : List Event) (waits : waiting objects (events_at rows' place) ≡ events) where
      after_counts : (queued : ℕ) → queued ≡ length events → queued ≤ EVENTS → length (events_at rows' place) ≤ queued + EVENTS → (queue : Queue)
          → record { events = events; lost = log.lost; mismatched = log.mismatched } ≡ queue
          → IsAfter rows' (with_place logs place (record log { queued = queued; objects = objects })) queue
      after_counts queued is few few_rows queue same =
          let holds = logged stood in
          after rows' (events_at rows' place) (record { changed = changed; now = refl }) (record log { queued = queued; objects = objects })
          (record { few = few; queued = is ∙ sym (ap length waits); few_rows = few_rows; counted = counted; lost = holds.lost; mismatched = holds.mismatched })
          queue (ap (λ list. record { events = list; lost = log.lost; mismatched = log.mismatched }) waits ∙ same)

    abbrev now_waiting : List Event
    now_waiting = waiting log.objects (events_at rows place)

    module _ (rows' : Table (List (Keyed QueuedEvent))) (objects : ObjectCounts) (events : List Event)
        (has : HasWaiting rows rows' place log.objects objects events) where
      after_waiting : (queued : ℕ) → queued ≡ length events → queued ≤ EVENTS → (queue : Queue)
          → record { events = events; lost = log.lost; mismatched = log.mismatched } ≡ queue
          → IsAfter rows' (with_place logs place (record log { queued = queued; objects = objects })) queue
      after_waiting queued is few = search (rules, logged, after_counts)

    -- the first event that waits is taken, if there is any
    module _ {rows' : Table (List (Keyed QueuedEvent))} {objects : ObjectCounts}
        (has : HasWaiting rows rows' place log.objects objects (drop 1 now_waiting)) where
      pub first_taken : {event : Event} → Some event ≡ slice_get now_waiting 0
          → (0 < log.queued) × IsAfter rows' (with_place logs place (record log { queued = log.queued - 1; objects = objects })) (taken (queue_at table place))
      first_taken {event} first =
          let holds = logged stood in (
            some now_waiting first holds.queued,
            after_waiting rows' objects (drop 1 now_waiting) has (log.queued - 1) (omega (arith, length-drop 1 now_waiting))
                (omega arith) (taken (queue_at table place)) (ap taken (sym (seen stood))),
          )
        where
          some : (list : List Event) → Some event ≡ slice_get list 0 → log.queued ≡ length list → 0 < log.queued
          some [] none is = absurd (cc)
          some (head ∷ list) found is = omega arith

      pub none_taken : None ≡ slice_get now_waiting 0 → IsAfter rows' (with_place logs place (record log { objects = objects })) (taken (queue_at table place))
      none_taken first =
          let holds = logged stood in
          after_waiting rows' objects (drop 1 now_waiting) has log.queued (stays now_waiting first holds.queued) holds.few (taken (queue_at table place))
          (ap taken (sym (seen stood)))
        where
          stays : (list : List Event) → None ≡ slice_get list 0 → log.queued ≡ length list → log.queued ≡ length (drop 1 list)
          stays [] none is = is
          stays (event ∷ list) found is = absurd (cc)

    -- the events of an object are dropped
    module _ (objects : ObjectCounts) (object : ℕ) (same : (other : ℕ) → count_of objects other ≡ count_of log.objects other)
        (marks : (other : ℕ) → 0 < count_of objects other → is_dropped objects other ≡ (is_dropped log.objects other || (other == object)))
        {waited : ℕ} (is : waited ≡ cond (is_dropped log.objects object) 0 (count_of log.objects object)) where
      left : length (others object now_waiting) + waited ≡ log.queued
      left = search (rules, logged, dropped_length)

      pub fewer_queued : waited ≤ log.queued
      fewer_queued = omega (arith, left)

      pub left_counted : AreCounted objects (events_at rows place)
      left_counted = counted_yet log.objects objects (events_at rows place) (logged stood).counted object same

      left_waiting : waiting objects (events_at rows place) ≡ others object now_waiting
      left_waiting = dropped_waiting log.objects objects (events_at rows place) (logged stood).counted object same marks

      -- their rows stand
      pub all_dropped : length (rows_at rows place) ≤ 2 * (log.queued - waited)
          → IsAfter rows (with_place logs place (record log { queued = log.queued - waited; objects = objects })) (dropped object (queue_at table place))
      all_dropped most =
          after_counts rows (changes_same [] rows rows place refl) objects left_counted (others object now_waiting) left_waiting (log.queued - waited)
          (omega (arith, left)) (omega (arith, (logged stood).few))
          (omega (arith, (logged stood).few, length-map (rows_at rows place) (λ keyed. keyed.row.event))) (dropped object (queue_at table place))
          (ap (dropped object) (sym (seen stood)))

      -- or were swept out
      pub all_swept : {rows' : Table (List (Keyed QueuedEvent))} {objects' : ObjectCounts}
          → HasWaiting rows rows' place objects objects' (waiting objects (events_at rows place))
          → events_at rows' place ≡ waiting objects (events_at rows place)
          → IsAfter rows' (with_place logs place (record log { queued = log.queued - waited; objects = objects' })) (dropped object (queue_at table place))
      all_swept {rows'} {objects'} has all =
          after_counts rows' has.changed objects' has.counted (others object now_waiting) (has.waits ∙ left_waiting) (log.queued - waited) (omega (arith, left))
          (omega (arith, (logged stood).few))
          (omega (arith, ap length all, ap length left_waiting, left)) (dropped object (queue_at table place)) (ap (dropped object) (sym (seen stood)))

    -- there is a way for one more event
    module _ {rows' : Table (List (Keyed QueuedEvent))} {objects : ObjectCounts} (has : HasWaiting rows rows' place log.objects objects now_waiting) where
      pub unposted : IsAfter rows' (with_place logs place (record log { objects = objects })) (queue_at table place)
      unposted = search (rules, logged, after_waiting, seen)

      -- another count of what is counted already fits
      pub count_fits : (object : ℕ) → count_of objects object < 2 ^ 32 - 1
      count_fits object = search (rules, logged, few_counted)

    pub takes_more : log.queued < EVENTS → has_room (queue_at table place) ≡ true
    takes_more room = grind (arith, common_steps, seen, logged)

    pub one_posted : {rows' : Table (List (Keyed QueuedEvent))} {objects : ObjectCounts} (event : Event) → log.queued < EVENTS
        → HasWaiting rows rows' place log.objects objects (placed event now_waiting)
        → IsAfter rows' (with_place logs place (record log { queued = log.queued + 1; objects = objects })) (enqueued (queue_at table place) event)
    one_posted {rows'} {objects} event room has = search (rules, after_waiting, logged, length_placed, takes_more, seen)

    pub back_again : with_queue table place (queue_at table place) ≡ table
    back_again = with_same empty_queue table place

    -- where the place is full all stays
    pub full_stays : (event : Event) → EVENTS ≤ log.queued → (has_room (queue_at table place) ≡ false)
        × (paired_tables queue_of rows (with_place logs place log) ≡ with_queue table place (enqueued (queue_at table place) event))
    full_stays event full =
        let long = (logged stood).queued in
        let none : has_room (queue_at table place) ≡ false = ap has_room (seen stood) ∙ grind (arith, nat_tests, long, full) in
        let whole : with_place logs place log ≡ logs = ap (with_place logs place) (stood log) ∙ with_same log logs place in
        (none, ap (paired_tables queue_of rows) whole ∙ (view_is ∙ rw none (sym back_again)))

    pub counts_told : record { queued = log.queued; lost = log.lost; mismatched = log.mismatched } ≡ counts_of (queue_at table place)
    counts_told = grind (arith, common_steps, logged, seen)

    pub sound_at : IsSound (queue_at table place)
    sound_at = grind (arith, nat_tests, logged stood, seen stood)

-- one more place, with no event
pub record IsOpened (rows rows' : Table (List (Keyed QueuedEvent))) (logs' : Table Log) (table : Table Queue) : Type 0 where
  pub kept : AreLogged rows' logs'
  pub view : paired_tables queue_of rows' logs' ≡ opened table empty_queue
  pub place : (result : ℕ) → result ≡ length rows.places → result ≡ length table.places

module _ {rows : Table (List (Keyed QueuedEvent))} {logs : Table Log} (are : AreLogged rows logs) (table : Table Queue)
    (view_is : paired_tables queue_of rows logs ≡ table) (new : Log) (lost : new.lost ≡ 0) (mismatched : new.mismatched ≡ 0) (holds : IsLogged [] new) where
  pub opened_by : (rows' : Table (List (Keyed QueuedEvent))) (logs' : Table Log) → rows' ≡ opened rows [] → logs' ≡ opened logs new
      → IsOpened rows rows' logs' table
  opened_by rows' logs' rows_are logs_are = rw (rows_are, logs_are) (record { kept = kept; view = view; place = place })
    where
      kept : AreLogged (opened rows []) (opened logs new)
      kept = record {
        same = omega (arith, length_push rows.places [], length_push logs.places new);
        each = λ other d within. each_opened (λ list log. IsLogged (events_of list) log) rows.places logs.places [] are.same are.each [] new holds other d
            (omega (arith, length_push rows.places []));
      }

      view : paired_tables queue_of (opened rows []) (opened logs new) ≡ opened table empty_queue
      view =
          let empty : queue_of [] new ≡ empty_queue = rw (lost, mismatched) refl in
          pairs_opened queue_of rows logs are.same view_is [] new ∙ ap (opened table) empty

      place : (result : ℕ) → result ≡ length rows.places → result ≡ length table.places
      place result is = is ∙ sym (pairs_length queue_of rows logs are.same view_is)
