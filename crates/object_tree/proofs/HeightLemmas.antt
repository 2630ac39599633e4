-- How many levels hang at an object.
use Rattle.std.proofs.Common.{◌≡◌, ℕ, suc, zero, ◌+◌, ◌-◌, List, [], ◌∷◌, Some, length, map, filter, max, refl, ap, ◌∙◌, arith, nat_lt}
use Rattle.std.proofs.lemmas.Bool.{cond_both}
use Rattle.object_tree.specs.declared.child.Child.{Child}
use Rattle.object_tree.specs.declared.row.Row.{Row}
use Rattle.object_tree.specs.Rows.{by_stamp, children, has_parent, inserted, numbers}
use Rattle.object_tree.specs.Lines.{greatest, levels_within}

-- the greatest of some numbers is that in any order
greatest-inserted : (f : ℕ → ℕ) (row : Row) (rows : List Row)
    → greatest (map f (numbers (inserted row rows))) ≡ max (f row.number) (greatest (map f (numbers rows)))
greatest-inserted f row [] = refl
greatest-inserted f row (first ∷ rest) = cond_both (nat_lt row.stamp first.stamp) (row ∷ first ∷ rest) (first ∷ inserted row rest)
    (λ list. greatest (map f (numbers list)) ≡ max (f row.number) (max (f first.number) (greatest (map f (numbers rest)))))
    (λ _. refl) (λ _. omega (arith, greatest-inserted f row rest))

greatest-by_stamp : (f : ℕ → ℕ) (rows : List Row) → greatest (map f (numbers (by_stamp rows))) ≡ greatest (map (λ (row : Row). f row.number) rows)
greatest-by_stamp f [] = refl
greatest-by_stamp f (row ∷ rest) = greatest-inserted f row (by_stamp rest) ∙ ap (max (f row.number)) (greatest-by_stamp f rest)

-- the greatest so far and of what is left, one child on
pub greatest_more : (f : ℕ → ℕ) (kids rest : List Child) (child : Child) (so_far : ℕ) → kids ≡ child ∷ rest
    → max so_far (greatest (map f (map (λ (c : Child). c.number) kids)))
    ≡ max (max so_far (f child.number)) (greatest (map f (map (λ (c : Child). c.number) rest)))
greatest_more f kids rest child so_far first = rw first (omega arith)

-- the greatest so far, where nothing is left
pub levels_end : (most : ℕ) (rows : List Row) (number so_far : ℕ) (kids : List Child) → (most ≡ 0 → ⊥) → length kids ≡ 0
    → max so_far (greatest (map (levels_within (most - 1) rows) (map (λ (child : Child). child.number) kids)))
    ≡ greatest (map (levels_within (most - 1) rows) (children rows (Some number)))
    → 1 + so_far ≡ levels_within most rows number
unfolding children
levels_end zero rows number so_far kids some past all = absurd (some refl)
levels_end (suc most) rows number so_far (kid ∷ kids) some past all = absurd (omega arith)
levels_end (suc most) rows number so_far [] some past all =
    let e : suc most - 1 ≡ most = omega arith in
    let f : ℕ → ℕ = levels_within most rows in
    let at_end : max so_far 0 ≡ greatest (map f (numbers (by_stamp (filter (has_parent (Some number)) rows)))) = rw e at all in
    omega (arith, greatest-by_stamp f (filter (has_parent (Some number)) rows))
