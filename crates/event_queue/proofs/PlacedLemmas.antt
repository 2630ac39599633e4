-- What the events are once one more stands in its place among them.
use Rattle.std.proofs.Common.{◌≡◌, suc, ◌+◌, Bool, true, false, not, cond, List, [], ◌∷◌, ◌++◌, length, filter, count_by, refl, ap, arith, rules}
use Rattle.std.proofs.lemmas.Grind.{common_steps}
use Rattle.std.proofs.lemmas.Bool.Decides.{nat_tests}
use Rattle.std.specs.List.{All}
use Rattle.std.proofs.lemmas.List.{length-append}
use Rattle.std.proofs.lemmas.List.Elements.{All-append, All-cons, All-filter}
use Rattle.std.proofs.lemmas.List.Filters.{length-filter_both, sum_by-filter_both}
use Rattle.std.proofs.lemmas.List.Sums.{sum_by-append, sum_by-cons}
use Rattle.event_queue.specs.declared.event.Event.{Event}
use Rattle.event_queue.specs.Queue.{is_before, placed}

module _ (event : Event) (events : List Event) where
  abbrev ahead : Event → Bool
  ahead earlier = is_before earlier event

  abbrev behind : Event → Bool
  behind earlier = not (is_before earlier event)

  -- there is one more
  pub length_placed : length (placed event events) ≡ length events + 1
  length_placed = search (rules, length-append, length-filter_both)

  -- what holds of all others and of itself holds of all
  pub All_placed : (P : Event → Type 0) → P event → All P events → All P (placed event events)
  All_placed P new all = search (rules, All-append, All-filter, All-cons)

  -- those that pass a test are one more where it passes
  pub count_placed : (test : Event → Bool) → count_by test (placed event events) ≡ count_by test events + cond (test event) 1 0
  count_placed test = grind (arith, common_steps, sum_by-append, sum_by-cons, sum_by-filter_both)

module _ {X : Type 0} where
  pub filter_even : (b : Bool) (test : X → Bool) (items : List X) → All (λ item. test item ≡ b) items → filter test items ≡ cond b items []
  filter_even true test [] all = refl
  filter_even false test [] all = refl
  filter_even b test (item ∷ items) all = grind (
    arith,
    nat_tests,
    all 0 item (omega arith),
    filter_even b test items (λ k d within. all (suc k) d (omega arith)),
  )

-- behind all others, where none of them is of a lower priority
pub placed_last : (event : Event) (events : List Event) → All (λ earlier. is_before earlier event ≡ true) events → placed event events ≡ events ++ event ∷ []
placed_last event events all = grind (
  arith,
  common_steps,
  filter_even true (ahead event events) events all,
  filter_even false (behind event events) events (λ k d within. ap not (all k d within)),
)
