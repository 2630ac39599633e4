-- Queues by priority.
use Rattle.std.proofs.Common.{◌≡◌, ◌∙◌, ℕ, ◌==◌, Bool, true, false, not, cond, inl, inr, ◌⊎◌, List, [], ◌∷◌, ◌++◌, ◌<◌, nat_le, drop, filter, find, is_some}
use Rattle.std.proofs.Common.{refl, ap, arith, rules}
use Rattle.std.proofs.lemmas.Grind.{common_steps}
use Rattle.std.specs.List.{slice_get}
use Rattle.std.proofs.lemmas.Bool.{eqb-true, false≢true}
use Rattle.event_queue.specs.declared.event.Event.{Event}
use Rattle.event_queue.specs.declared.event.Priority.{Priority}
use Rattle.event_queue.specs.declared.event.Priority.TheVariants.{Low, Normal, High}
use Rattle.event_queue.specs.Queue.{Queue, is_before, others, placed, priority_of, rank_of}
use Rattle.event_queue.specs.Laws.{IsByPriority, by_priority, first_of, has, highest, without_one}

module _ {X : Type 0} (keep test : X → Bool) where
  -- of those that pass one test all pass another, or none do
  pub filter_even : (b : Bool) → ((x : X) → test x ≡ true → keep x ≡ b) → (items : List X) → filter keep (filter test items) ≡ cond b (filter test items) []
  filter_even true all [] = refl
  filter_even false all [] = refl
  filter_even b all (item ∷ items) = grind (arith, common_steps, all item, filter_even b all items)

  pub filter_turned : (items : List X) → filter keep (filter test items) ≡ filter test (filter keep items)
  filter_turned [] = refl
  filter_turned (item ∷ items) = search (rules, filter_turned items)

not_other : (a rank other : ℕ) → (a == rank) ≡ true → other < rank ⊎ rank < other → (a == other) ≡ false
not_other a rank other is apart = search (rules, eqb-true)

module _ (posts : List Event) where
  abbrev of : Priority → List Event
  of priority = filter (has priority) posts

  -- those of events by priority that pass a test
  parted : (test : Event → Bool) (high normal low : List Event) → filter test (of High) ≡ high → filter test (of Normal) ≡ normal → filter test (of Low) ≡ low
      → filter test (by_priority posts) ≡ high ++ (normal ++ low)
  parted test high normal low is_high is_normal is_low = grind (arith, common_steps)

  module _ (event : Event) where
    -- and of one more
    more : (high normal low : List Event) → filter (has High) (event ∷ []) ≡ high → filter (has Normal) (event ∷ []) ≡ normal
        → filter (has Low) (event ∷ []) ≡ low
        → by_priority (posts ++ event ∷ []) ≡ (of High ++ high) ++ ((of Normal ++ normal) ++ (of Low ++ low))
    more high normal low is_high is_normal is_low = grind (arith, common_steps)

    abbrev own : ℕ
    own = rank_of (priority_of event)

    -- events of a priority stand all before the event or all behind it
    front_of : (priority : Priority) → filter (λ earlier. is_before earlier event) (of priority) ≡ cond (nat_le (rank_of priority) own) (of priority) []
    front_of priority = filter_even (λ earlier. is_before earlier event) (has priority) (nat_le (rank_of priority) own)
        (λ x is. ap (λ n. nat_le n own) (eqb-true (rank_of (priority_of x)) (rank_of priority) is)) posts

    back_of : (priority : Priority) → filter (λ earlier. not (is_before earlier event)) (of priority)
        ≡ cond (not (nat_le (rank_of priority) own)) (of priority) []
    back_of priority = filter_even (λ earlier. not (is_before earlier event)) (has priority) (not (nat_le (rank_of priority) own))
        (λ x is. ap (λ n. not (nat_le n own)) (eqb-true (rank_of (priority_of x)) (rank_of priority) is)) posts

    -- an event in its place behind those that were posted earlier
    placed_by : (priority : Priority) → priority_of event ≡ priority → placed event (by_priority posts) ≡ by_priority (posts ++ event ∷ [])
    placed_by High is = let rank : own ≡ 0 = ap rank_of is in
        grind (arith, common_steps, rank, front_of High, front_of Normal, front_of Low, back_of High, back_of Normal, back_of Low)
    placed_by Normal is = let rank : own ≡ 1 = ap rank_of is in
        grind (arith, common_steps, rank, front_of High, front_of Normal, front_of Low, back_of High, back_of Normal, back_of Low)
    placed_by Low is = let rank : own ≡ 2 = ap rank_of is in
        grind (arith, common_steps, rank, front_of High, front_of Normal, front_of Low, back_of High, back_of Normal, back_of Low)

-- where an event of a kind is found it is the first of them, and without it the others are left
none_found : (test : Event → Bool) (posts : List Event) → is_some (find test posts) ≡ false → filter test posts ≡ []
none_found test [] none = refl
none_found test (post ∷ posts) none = search (rules, test post, none_found test posts, false≢true)

first_found : (test : Event → Bool) (posts rest : List Event) → is_some (find test posts) ≡ true → slice_get (filter test posts ++ rest) 0 ≡ find test posts
first_found test [] rest some = absurd (false≢true some)
first_found test (post ∷ posts) rest some = search (rules, test post, first_found test posts rest)

first_of_all : (test : Event → Bool) (posts : List Event) → slice_get (filter test posts) 0 ≡ find test posts
first_of_all test [] = refl
first_of_all test (post ∷ posts) = search (rules, test post, first_of_all test posts)

rest_found : (priority : Priority) (posts rest : List Event) → is_some (find (has priority) posts) ≡ true
    → drop 1 (filter (has priority) posts ++ rest) ≡ filter (has priority) (without_one priority posts) ++ rest
rest_found priority [] rest some = absurd (false≢true some)
rest_found priority (post ∷ posts) rest some = search (rules, rest_found priority posts rest)

rest_of_all : (priority : Priority) (posts : List Event) → drop 1 (filter (has priority) posts) ≡ filter (has priority) (without_one priority posts)
rest_of_all priority [] = refl
rest_of_all priority (post ∷ posts) = search (rules, rest_of_all priority posts)

others_stay : (priority other : Priority) → rank_of other < rank_of priority ⊎ rank_of priority < rank_of other → (posts : List Event)
    → filter (has other) (without_one priority posts) ≡ filter (has other) posts
others_stay priority other apart [] = refl
others_stay priority other apart (post ∷ posts) = search (rules, others_stay priority other apart posts, not_other)

module _ (posts : List Event) where
  first_is : (high normal : Bool) → is_some (find (has High) posts) ≡ high → is_some (find (has Normal) posts) ≡ normal
      → slice_get (by_priority posts) 0 ≡ first_of posts
  first_is true normal high_is normal_is = grind (arith, common_steps, first_found (has High) posts (of posts Normal ++ of posts Low))
  first_is false true high_is normal_is = grind (arith, common_steps, none_found (has High) posts, first_found (has Normal) posts (of posts Low))
  first_is false false high_is normal_is = grind (arith, common_steps, none_found (has High) posts, none_found (has Normal) posts, first_of_all (has Low) posts)

  rest_is : (high normal : Bool) → is_some (find (has High) posts) ≡ high → is_some (find (has Normal) posts) ≡ normal
      → drop 1 (by_priority posts) ≡ by_priority (without_one (highest posts) posts)
  rest_is true normal high_is normal_is = grind (
    arith,
    common_steps,
    rest_found High posts (of posts Normal ++ of posts Low),
    others_stay High Normal (inr (omega arith)) posts,
    others_stay High Low (inr (omega arith)) posts,
  )
  rest_is false true high_is normal_is = grind (
    arith,
    common_steps,
    none_found (has High) posts,
    rest_found Normal posts (of posts Low),
    others_stay Normal Low (inr (omega arith)) posts,
    others_stay Normal High (inl (omega arith)) posts,
  )
  rest_is false false high_is normal_is = grind (
    arith,
    common_steps,
    none_found (has High) posts,
    none_found (has Normal) posts,
    rest_of_all Low posts,
    others_stay Low Normal (inl (omega arith)) posts,
    others_stay Low High (inl (omega arith)) posts,
  )

  others_are : (object : ℕ) → others object (by_priority posts) ≡ by_priority (others object posts)
  others_are object = search (rules, parted, filter_turned)

-- a queue has its events by priority after each change
pub stays_by_priority : (posts : List Event) (queue : Queue) → queue.events ≡ by_priority posts → IsByPriority posts queue
stays_by_priority posts queue is = record {
  by_posted = λ event room. rw room (ap (placed event) is ∙ placed_by posts event (priority_of event) refl);
  first = ap (λ events. slice_get events 0) is ∙ first_is posts _ _ refl refl;
  by_taken = ap (drop 1) is ∙ rest_is posts _ _ refl refl;
  by_dropped = λ object. ap (others object) is ∙ others_are posts object;
}
