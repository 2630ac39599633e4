-- What each change leaves of the events of a session.
use Rattle.std.proofs.Common.{◌≡◌, ◌<◌, ◌==◌, ℕ, Bool, true, false, not, cond, List, [], ◌∷◌, ◌++◌, All, filter, length, refl, arith}
use Rattle.std.proofs.lemmas.Bool.Decides.{nat_tests}
use Rattle.std.proofs.lemmas.List.Elements.{All-drop, All-filter, All-weaker}
use Rattle.std.proofs.lemmas.List.{length-drop}
use Rattle.std.proofs.lemmas.List.Sums.{count_by-le-length, length-filter}
use Rattle.session_model.proofs.Common.{numbers, Event, Queue, has_room, with_mismatched, IsMeant, State}
use Rattle.event_queue.specs.declared.table.TheConstants.{EVENTS}
use Rattle.event_queue.specs.Queue.{IsSound, dropped, empty_queue, object_of, others, placed, enqueued, taken, with_lost}
use Rattle.event_queue.proofs.PlacedLemmas.{All_placed, length_placed}
use Rattle.session_model.proofs.ConnectionLemmas.{there_more, there_same, there_without}

-- a queue stays sound in each change
pub sound_none : IsSound empty_queue
sound_none = record { few = omega arith; lost = omega arith; mismatched = omega arith }

pub sound_posted : {queue : Queue} (event : Event) → IsSound queue → IsSound (enqueued queue event)
sound_posted {queue} event sound = by (has_room queue) refl
  where
    by : (room : Bool) → has_room queue ≡ room → IsSound (cond room (record queue { events = placed event queue.events }) queue)
    by true is =
        let room : length queue.events < EVENTS = grind (arith, nat_tests, is) in
        record { few = omega (arith, room, length_placed event queue.events); lost = sound.lost; mismatched = sound.mismatched }
    by false is = sound

pub sound_taken : {queue : Queue} → IsSound queue → IsSound (taken queue)
sound_taken {queue} sound = record { few = omega (arith, sound.few, length-drop 1 queue.events); lost = sound.lost; mismatched = sound.mismatched }

pub sound_dropped : (object : ℕ) {queue : Queue} → IsSound queue → IsSound (dropped object queue)
sound_dropped object {queue} sound =
    let kept = λ (event : Event). not (object_of event == object) in
    record {
      few = omega (arith, sound.few, length-filter kept queue.events, count_by-le-length kept queue.events);
      lost = sound.lost;
      mismatched = sound.mismatched;
    }

pub sound_lost : {queue : Queue} → IsSound queue → IsSound (with_lost queue)
sound_lost sound = record { few = sound.few; lost = omega arith; mismatched = sound.mismatched }

pub sound_mismatched : {queue : Queue} → IsSound queue → IsSound (with_mismatched queue)
sound_mismatched sound = record { few = sound.few; lost = sound.lost; mismatched = omega arith }

-- what holds of every event, and of one more, holds when that is posted
pub each_posted : (P : Event → Type 0) (queue : Queue) (event : Event) → P event → All P queue.events → All P (enqueued queue event).events
each_posted P queue event new all = by (has_room queue)
  where
    by : (room : Bool) → All P (cond room (record queue { events = placed event queue.events }) queue).events
    by true = All_placed event queue.events P new all
    by false = all

pub each_taken : (P : Event → Type 0) (queue : Queue) → All P queue.events → All P (taken queue).events
each_taken P queue all = All-drop P 1 queue.events all

pub each_dropped : (P : Event → Type 0) (object : ℕ) (queue : Queue) → All P queue.events → All P (dropped object queue).events
each_dropped P object queue all = All-filter (λ (event : Event). not (object_of event == object)) P queue.events all

-- the objects that events name stand still where the numbers of objects stay the same
pub meant_same : (old new : State) → numbers new.forest.rows ≡ numbers old.forest.rows → (events : List Event) → All (IsMeant old) events
    → All (IsMeant new) events
meant_same old new same events = All-weaker (IsMeant old) (IsMeant new) (λ event. there_same old new same (object_of event)) events

-- where one more number is there
pub meant_more : (old new : State) (number : ℕ) → numbers new.forest.rows ≡ numbers old.forest.rows ++ number ∷ [] → (events : List Event)
    → All (IsMeant old) events → All (IsMeant new) events
meant_more old new number more events = All-weaker (IsMeant old) (IsMeant new) (λ event. there_more old new number more (object_of event)) events

-- and where a number goes that no event names
pub meant_without : (old new : State) (number : ℕ) → numbers new.forest.rows ≡ filter (λ key. not (key == number)) (numbers old.forest.rows)
    → (events : List Event) → All (λ event. (object_of event == number) ≡ false) events → All (IsMeant old) events → All (IsMeant new) events
meant_without old new number fewer events others meant index default within =
    there_without old new number fewer _ (others index default within) (meant index default within)
