-- One action of a list counts at most as many actions as the list.
use Rattle.std.proofs.Common.{◌≡◌, ◌≤◌, ◌<◌, ℕ, zero, suc, List, [], ◌∷◌, length, get_or, subst, sym, arith}
use Rattle.term_core.specs.Act.{Act, acts_of, count, counts}

pub count_within : (actions : List Act) (i : ℕ) (d : Act) → i < length actions → count (get_or actions i d) ≤ counts (acts_of actions)
count_within [] i d h = absurd (omega arith)
count_within (action ∷ rest) zero d h = omega arith
count_within (action ∷ rest) (suc i) d h = omega (arith, count_within rest i d (omega arith))

pub counted : (actions : List Act) (i : ℕ) (action : Act) → i < length actions → action ≡ get_or actions i action → count action ≤ counts (acts_of actions)
counted actions i action within is = subst (λ one. count one ≤ counts (acts_of actions)) (sym is) (count_within actions i action within)
