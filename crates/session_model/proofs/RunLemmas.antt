-- The run of an agenda comes to its end.
use Rattle.std.proofs.Common.{◌≡◌, ◌<◌, ◌≤◌, ℕ, zero, suc, List, [], ◌∷◌, ◌++◌, refl, sym, ap, ◌∙◌, append_assoc, arith}
use Rattle.std.proofs.Math.Nat.{mul-le-mul_left}
use Rattle.std.proofs.lemmas.List.{append-nil}
use Rattle.session_model.proofs.Common.{step, Execution, Item, Next, puts, Most, weights, Settings}
use Rattle.session_model.specs.Run.{RunsToItsEnd, deletion_weight, enough, living, most, run, steps, turn_weight}
use Rattle.session_model.proofs.FallLemmas.{FallsTo, falls, total}
use Rattle.session_model.proofs.ShrinkLemmas.{Shrinks, both, same}
use Rattle.session_model.proofs.LivingLemmas.{living_rows}
use Rattle.session_model.proofs.WeightLemmas.{IsAtMost, body-more, change-more, weight-some, weights-append, weights-more}

-- what bounds a run bounds it after an item too
bounded : (settings : Settings) (old new : Execution) → Shrinks old new → IsAtMost (most settings new) (most settings old)
bounded settings old new shrinks = record { connections = shrinks.connections; objects = shrinks.objects; properties = shrinks.properties; actions = refl }

-- with lower bounds less is enough
total-more : (m n : Most) (doing : Execution) (items : ℕ) → IsAtMost m n → total m doing items ≤ total n doing items
total-more m n doing items less =
    let bodies = body-more less in
    let change = change-more less in
    let turn : turn_weight m ≤ turn_weight n = omega (arith, bodies, less.connections) in
    let deletion : deletion_weight m ≤ deletion_weight n = omega (arith, change, less.objects, less.connections) in
    let turns = mul-le-mul_left doing.turns turn in
    let deletions = mul-le-mul_left (living_rows doing.state.forest.rows) deletion in
    omega (arith, turns, deletions)

enough-total : (settings : Settings) (agenda : List Item) (doing : Execution)
    → enough settings agenda doing ≡ total (most settings doing) doing (weights (most settings doing) agenda)
unfolding enough living
enough-total settings agenda doing = refl

-- fewer steps are enough after an item than before it
enough-falls : (settings : Settings) (item : Item) (agenda : List Item) (doing : Execution)
    → enough settings ((step settings item doing).items ++ agenda) (step settings item doing).doing < enough settings (item ∷ agenda) doing
enough-falls settings item agenda doing = by (step settings item doing).items (step settings item doing).doing (falls settings item doing)
  where
    n : Most
    n = most settings doing

    by : (items : List Item) (new : Execution) → FallsTo settings doing item (record { items = items; doing = new })
        → enough settings (items ++ agenda) new < enough settings (item ∷ agenda) doing
    by items new fall =
        let is_less = bounded settings doing new fall.shrinks in
        let less = total-more (most settings new) (most settings doing) new (weights (most settings new) (items ++ agenda)) is_less in
        let lighter = weights-more (items ++ agenda) is_less in
        let parts = weights-append (most settings doing) items agenda in
        omega (arith, enough-total settings (items ++ agenda) new, enough-total settings (item ∷ agenda) doing, less, lighter, parts, fall.lower)

-- no steps are enough only for an empty agenda
enough-some : (settings : Settings) (item : Item) (agenda : List Item) (doing : Execution) → 1 ≤ enough settings (item ∷ agenda) doing
unfolding enough
enough-some settings item agenda doing = let some = weight-some (most settings doing) item in omega (arith, some)

module _ (settings : Settings) where
  -- two runs that have enough steps come to the same
  same_end : (one other : ℕ) (agenda : List Item) (doing : Execution) → enough settings agenda doing ≤ one → enough settings agenda doing ≤ other
      → steps settings one agenda doing ≡ steps settings other agenda doing
  same_end zero zero agenda doing a b = refl
  same_end zero (suc other) [] doing a b = refl
  same_end (suc one) zero [] doing a b = refl
  same_end (suc one) (suc other) [] doing a b = refl
  same_end zero other (item ∷ agenda) doing a b = absurd (let some = enough-some settings item agenda doing in omega (arith, some))
  same_end (suc one) zero (item ∷ agenda) doing a b = absurd (let some = enough-some settings item agenda doing in omega (arith, some))
  same_end (suc one) (suc other) (item ∷ agenda) doing a b =
      let less = enough-falls settings item agenda doing in
      same_end one other ((step settings item doing).items ++ agenda) (step settings item doing).doing (omega (arith, less)) (omega (arith, less))

  pub at_end : (doing : Execution) → run settings [] doing ≡ doing
  unfolding run
  at_end doing = by (enough settings [] doing)
    where
      by : (fuel : ℕ) → steps settings fuel [] doing ≡ doing
      by zero = refl
      by (suc fuel) = refl

  pub at_item : (item : Item) (agenda : List Item) (doing : Execution)
      → run settings (item ∷ agenda) doing ≡ run settings ((step settings item doing).items ++ agenda) (step settings item doing).doing
  unfolding run
  at_item item agenda doing = by (enough settings (item ∷ agenda) doing) refl
    where
      by : (fuel : ℕ) → enough settings (item ∷ agenda) doing ≡ fuel
          → steps settings fuel (item ∷ agenda) doing ≡ steps settings
          (enough settings ((step settings item doing).items ++ agenda) (step settings item doing).doing) ((step settings item doing).items ++ agenda)
          (step settings item doing).doing
      by zero e = absurd (let some = enough-some settings item agenda doing in omega (arith, some, e))
      by (suc fuel) e = let less = enough-falls settings item agenda doing in
          same_end fuel (enough settings ((step settings item doing).items ++ agenda) (step settings item doing).doing)
          ((step settings item doing).items ++ agenda) (step settings item doing).doing (omega (arith, less, e)) (omega arith)

  -- nothing is done after the last item
  pub behind_nothing : (items : List Item) (doing : Execution) → run settings (items ++ []) doing ≡ run settings items doing
  behind_nothing items doing = ap (λ items. run settings items doing) (append-nil items)

  -- an item is done by what it comes to
  pub by_step : (item : Item) (doing : Execution) (next : Next) → step settings item doing ≡ next
      → run settings (item ∷ []) doing ≡ run settings next.items next.doing
  by_step item doing next e = at_item item [] doing ∙ behind_nothing (step settings item doing).items (step settings item doing).doing
      ∙ ap (λ (next : Next). run settings next.items next.doing) e

  -- an item that puts nothing in front only changes the session
  pub by_change : (item : Item) (doing new : Execution) → step settings item doing ≡ puts [] new → run settings (item ∷ []) doing ≡ new
  by_change item doing new e = by_step item doing (puts [] new) e ∙ at_end new

  -- what stays with each item, from any agenda and session, holds when all is done
  module _ (P : List Item → Execution → Type 0)
      (keeps : (item : Item) (agenda : List Item) (doing : Execution) → P (item ∷ agenda) doing
      → P ((step settings item doing).items ++ agenda) (step settings item doing).doing) where
    steps_keep : (fuel : ℕ) (agenda : List Item) (doing : Execution) → enough settings agenda doing ≤ fuel → P agenda doing
        → P [] (steps settings fuel agenda doing)
    steps_keep zero [] doing is_enough holds = holds
    steps_keep (suc fuel) [] doing is_enough holds = holds
    steps_keep zero (item ∷ agenda) doing is_enough holds = absurd (let some = enough-some settings item agenda doing in omega (arith, some))
    steps_keep (suc fuel) (item ∷ agenda) doing is_enough holds =
        let less = enough-falls settings item agenda doing in
        steps_keep fuel ((step settings item doing).items ++ agenda) (step settings item doing).doing (omega (arith, less)) (keeps item agenda doing holds)

    pub run_keeps : (agenda : List Item) (doing : Execution) → P agenda doing → P [] (run settings agenda doing)
    unfolding run
    run_keeps agenda doing holds = steps_keep (enough settings agenda doing) agenda doing (omega arith) holds

  -- two agendas are done one after the other, where the first comes to its end in so many steps
  parts_within : (fuel : ℕ) (one other : List Item) (doing : Execution) → enough settings one doing ≤ fuel
      → run settings (one ++ other) doing ≡ run settings other (run settings one doing)
  parts_within fuel [] other doing is_enough = ap (run settings other) (sym (at_end doing))
  parts_within zero (item ∷ one) other doing is_enough = absurd (let some = enough-some settings item one doing in omega (arith, some))
  parts_within (suc fuel) (item ∷ one) other doing is_enough =
      let next = step settings item doing in
      let less = enough-falls settings item one doing in
      at_item item (one ++ other) doing
      ∙ ap (λ agenda. run settings agenda next.doing) (sym (append_assoc next.items one other))
      ∙ parts_within fuel (next.items ++ one) other next.doing (omega (arith, less))
      ∙ ap (run settings other) (sym (at_item item one doing))

  -- two agendas are done one after the other
  pub in_parts : (one other : List Item) (doing : Execution) → run settings (one ++ other) doing ≡ run settings other (run settings one doing)
  in_parts one other doing = parts_within (enough settings one doing) one other doing (omega arith)

  -- an agenda is done item after item
  pub after_first : (item : Item) (agenda : List Item) (doing : Execution)
      → run settings (item ∷ agenda) doing ≡ run settings agenda (run settings (item ∷ []) doing)
  after_first item agenda doing = in_parts (item ∷ []) agenda doing

  -- a run leaves no more turns, living objects and connections than there were
  pub run_shrinks : (agenda : List Item) (doing : Execution) → Shrinks doing (run settings agenda doing)
  run_shrinks agenda doing = run_keeps (λ items new. Shrinks doing new)
      (λ item rest new before. both doing new (step settings item new).doing before (falls settings item new).shrinks) agenda doing (same doing)

pub runs_to_its_end : RunsToItsEnd
runs_to_its_end = record { at_end = at_end; at_item = at_item; in_parts = in_parts }
