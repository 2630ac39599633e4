-- The search by levels finds what is nearest.
use Rattle.std.proofs.Common.{◌||◌, ◌≡◌, ℕ, suc, zero, ◌+◌, ◌-◌, ◌<◌, ◌≤◌, ◌==◌, Bool, true, false, ◌&&◌, cond, List, [], ◌∷◌, ◌++◌, Option, Some, None, length}
use Rattle.std.proofs.Common.{filter, find, drop, refl, sym, ap, ◌∙◌, arith, subst, ⊎_elim, nat_lt}
use Rattle.std.specs.Cmp.{nat_eq_equiv}
use Rattle.std.specs.List.{flat_map, list_any}
use Rattle.std.specs.Option.{option_or}
use Rattle.std.proofs.lemmas.Bool.{cases_Bool, cond-true, cond-false, eqb-true, eq-eqb, ne_eqb, cases_eq, false≢true, or_cases, or_left, or_right, and_parts}
use Rattle.std.proofs.lemmas.Bool.{false_from_ne_true, ltb-true}
use Rattle.std.proofs.lemmas.List.{append-nil}
use Rattle.std.proofs.lemmas.List.Elements.{filter-append}
use Rattle.std.proofs.lemmas.Grind.{flat_map-append}
use Rattle.std.proofs.lemmas.List.Folds.{Any-from_list_any, list_any-append, list_any_at}
use Rattle.std.proofs.lemmas.Map.Made.{is_member-filter}
use Rattle.object_tree.specs.declared.row.Row.{Row}
use Rattle.object_tree.specs.Rows.{children, parent_of}
use Rattle.object_tree.specs.Lines.{depth, line, line_at, walk}
use Rattle.object_tree.specs.Forest.{Forest, IsSound}
use Rattle.object_tree.specs.Finding.{IsFirstAtLeast, IsNearest, all_below, children_of, found_below, found_within, preorder_within}
use Rattle.object_tree.proofs.NumberLemmas.{found}
use Rattle.object_tree.proofs.ChildLemmas.{child_parent}
use Rattle.object_tree.proofs.RowLemmas.{among}
use Rattle.object_tree.proofs.TreeLemmas.{walk_within}

-- lists of numbers
any_at : (p : ℕ → Bool) (xs : List ℕ) → list_any p xs ≡ true → (m : ℕ) × (among xs m ≡ true) × (p m ≡ true)
any_at p xs e = let any = Any-from_list_any p xs e in (any.1, list_any_at (λ x. any.1 == x) xs any.0 any.1 any.2 (eq-eqb _ _ (sym any.3)), any.4)

none_at : (p : ℕ → Bool) (xs : List ℕ) → find p xs ≡ None → (m : ℕ) → among xs m ≡ true → p m ≡ true → ⊥
none_at p [] e m in' pass = absurd (cc)
none_at p (x ∷ xs) e m in' pass = ⊎_elim
    (λ here. absurd (let some : Some x ≡ None = sym (cond-true (p x) (Some x) (find p xs) here) ∙ e in cc))
    (λ other. ⊎_elim
    (λ same. false≢true (sym other ∙ (ap p (sym (eqb-true m x same)) ∙ pass)))
    (λ later. none_at p xs (sym (cond-false (p x) (Some x) (find p xs) other) ∙ e) m later pass)
    (or_cases (m == x) _ in'))
    (cases_Bool (p x))

found_in : (p : ℕ → Bool) (xs : List ℕ) (m : ℕ) → find p xs ≡ Some m → among xs m ≡ true
found_in p xs m e = let place = found p xs m e in list_any_at (λ x. m == x) xs place.at m place.within (eq-eqb _ _ (sym (place.is m)))

find_both : (p q : ℕ → Bool) (xs : List ℕ) → find (λ m. p m && q m) xs ≡ find p (filter q xs)
find_both p q [] = refl
find_both p q (x ∷ xs) = by (p x) (q x) refl (find_both p q xs)
  where
    by : (a b : Bool) → p x ≡ a → find (λ m. p m && q m) xs ≡ find p (filter q xs)
        → cond (a && b) (Some x) (find (λ m. p m && q m) xs) ≡ find p (cond b (x ∷ filter q xs) (filter q xs))
    by true true is h = sym (cond-true (p x) (Some x) (find p (filter q xs)) is)
    by true false is h = h
    by false true is h = h ∙ sym (cond-false (p x) (Some x) (find p (filter q xs)) is)
    by false false is h = h

among-filter : (q : ℕ → Bool) (xs : List ℕ) (m : ℕ) → among (filter q xs) m ≡ (among xs m && q m)
among-filter q xs m = is_member-filter nat_eq_equiv q m (λ x e. ap q (eqb-true m x e)) xs

flat_at : (g : ℕ → List ℕ) (xs : List ℕ) (m : ℕ) → among (flat_map g xs) m ≡ true → (c : ℕ) × (among xs c ≡ true) × (among (g c) m ≡ true)
flat_at g xs m e = any_at (λ c. among (g c) m) xs (sym (any-flat_map xs) ∙ e)
  where
    any-flat_map : (xs : List ℕ) → among (flat_map g xs) m ≡ list_any (λ c. among (g c) m) xs
    any-flat_map [] = refl
    any-flat_map (x ∷ xs) = list_any-append (λ y. m == y) (g x) (flat_map g xs) ∙ ap (λ b. among (g x) m || b) (any-flat_map xs)

flat_map-flat_map : (g h : ℕ → List ℕ) (xs : List ℕ) → flat_map g (flat_map h xs) ≡ flat_map (λ x. flat_map g (h x)) xs
flat_map-flat_map g h [] = refl
flat_map-flat_map g h (x ∷ xs) = flat_map-append g (h x) (flat_map h xs) ∙ ap (λ l. flat_map g (h x) ++ l) (flat_map-flat_map g h xs)

flat_map-one : (xs : List ℕ) → flat_map (λ x. x ∷ []) xs ≡ xs
flat_map-one [] = refl
flat_map-one (x ∷ xs) = ap (λ l. x ∷ l) (flat_map-one xs)

filter-flat_map : (q : ℕ → Bool) (g h : ℕ → List ℕ) (xs : List ℕ) → ((c : ℕ) → among xs c ≡ true → filter q (g c) ≡ h c)
    → filter q (flat_map g xs) ≡ flat_map h xs
filter-flat_map q g h [] each = refl
filter-flat_map q g h (x ∷ xs) each = filter-append q (g x) (flat_map g xs)
    ∙ λ i. each x (or_left (x == x) _ (eq-eqb x x refl)) i ++ filter-flat_map q g h xs (λ c in'. each c (or_right (c == x) _ in')) i

filter_none : (q : ℕ → Bool) (xs : List ℕ) → ((m : ℕ) → among xs m ≡ true → q m ≡ false) → filter q xs ≡ []
filter_none q [] none = refl
filter_none q (x ∷ xs) none = cond-false (q x) (x ∷ filter q xs) (filter q xs) (none x (or_left (x == x) _ (eq-eqb x x refl)))
    ∙ filter_none q xs (λ m in'. none m (or_right (m == x) _ in'))

-- a tree by the children of each, where each child stands one level lower
module _ (rows : List Row) (dep : ℕ → ℕ) (lower : (n c : ℕ) → among (children rows (Some n)) c ≡ true → dep c ≡ suc (dep n)) where
  abbrev kids : ℕ → List ℕ
  kids n = children rows (Some n)

  -- the level so many below an object
  abbrev level : ℕ → ℕ → List ℕ
  level zero n = n ∷ []
  level (suc k) n = children_of rows (level k n)

  level_top : (k n : ℕ) → level (suc k) n ≡ flat_map (level k) (kids n)
  level_top zero n = append-nil (kids n) ∙ sym (flat_map-one (kids n))
  level_top (suc k) n = ap (children_of rows) (level_top k n) ∙ flat_map-flat_map kids (level k) (kids n)

  level_depth : (k n m : ℕ) → among (level k n) m ≡ true → dep m ≡ dep n + k
  level_depth zero n m in' = ⊎_elim (λ same. omega (arith, ap dep (eqb-true m n same))) (λ no. absurd (cc)) (or_cases (m == n) false in')
  level_depth (suc k) n m in' =
      let h = flat_at kids (level k n) m in' in
      omega (arith, level_depth k n h.0 h.1, lower h.0 m h.2)

  deeper : (f c m : ℕ) → among (preorder_within f rows c) m ≡ true → dep c ≤ dep m
  deeper zero c m in' = absurd (cc)
  deeper (suc f) c m in' = ⊎_elim
      (λ same. omega (arith, ap dep (eqb-true m c same)))
      (λ later. let h = flat_at (preorder_within f rows) (kids c) m later in omega (arith, lower c h.0 h.1, deeper f h.0 m h.2))
      (or_cases (m == c) _ in')

  -- all below an object stand deeper
  below_deeper : (f n m : ℕ) → among (flat_map (preorder_within f rows) (kids n)) m ≡ true → dep n < dep m
  below_deeper f n m in' = let h = flat_at (preorder_within f rows) (kids n) m in' in omega (arith, lower n h.0 h.1, deeper f h.0 m h.2)

  -- those of one depth in preorder are a level
  levels : (f k n : ℕ) → k < f → filter (λ m. dep m == dep n + k) (preorder_within f rows n) ≡ level k n
  levels zero k n h = absurd (omega arith)
  levels (suc f) zero n h =
      cond-true (dep n == dep n + 0) _ _ (eq-eqb _ _ (omega arith))
      ∙ ap (λ l. n ∷ l) (filter_none _ (flat_map (preorder_within f rows) (kids n))
      (λ m in'. ne_eqb _ _ (λ same. absurd (omega (arith, below_deeper f n m in')))))
  levels (suc f) (suc k) n h =
      cond-false (dep n == dep n + suc k) _ _ (ne_eqb _ _ (λ same. absurd (omega arith)))
      ∙ (filter-flat_map (λ m. dep m == dep n + suc k) (preorder_within f rows) (level k) (kids n)
      (λ c in'. (let e : dep n + suc k ≡ dep c + k = omega (arith, lower n c in') in (λ i. filter (λ m. dep m == e i) (preorder_within f rows c))
      ∙ levels f k c (omega arith)))
      ∙ sym (level_top k n))

  -- where no level has a match
  abbrev NoneOn : (ℕ → Bool) → ℕ → ℕ → ℕ → Type 0
  NoneOn passes n from to = (i : ℕ) → from ≤ i → i < to → find passes (level i n) ≡ None

  abbrev FoundOn : (ℕ → Bool) → ℕ → ℕ → ℕ → Option ℕ → Type 0
  FoundOn passes n from to None = NoneOn passes n from to
  FoundOn passes n from to (Some x) = (k : ℕ) × (from ≤ k) × (k < to) × (find passes (level k n) ≡ Some x) × NoneOn passes n from k

  found_on : (passes : ℕ → Bool) (f k n : ℕ) → FoundOn passes n k (k + f) (found_within f rows passes (level k n))
  found_on passes zero k n = λ i le lt. absurd (omega arith)
  found_on passes (suc f) k n = by (find passes (level k n)) refl (found_within f rows passes (level (suc k) n)) (found_on passes f (suc k) n)
    where
      by : (here : Option ℕ) → find passes (level k n) ≡ here → (rest : Option ℕ) → FoundOn passes n (suc k) (suc k + f) rest
          → FoundOn passes n k (k + suc f) (option_or here rest)
      by (Some x) is rest later = (k, omega arith, omega arith, is, λ i le lt. absurd (omega arith))
      by None is None later = λ i le lt. ⊎_elim (λ same. ap (λ j. find passes (level j n)) same ∙ is) (λ other. later i (omega arith) (omega arith))
          (cases_eq i k)
      by None is (Some x) later = (
        later.0,
        omega arith,
        omega arith,
        later.3,
        λ i le lt. ⊎_elim (λ same. ap (λ j. find passes (level j n)) same ∙ is) (λ other. later.4 i (omega arith) lt) (cases_eq i k),
      )

  module _ (passes : ℕ → Bool) (object f : ℕ) (bounded : (m : ℕ) → dep m ≤ suc f) (positive : (m : ℕ) → 1 ≤ dep m) where
    abbrev below : List ℕ
    below = flat_map (preorder_within f rows) (kids object)

    below_level : (k : ℕ) → 1 ≤ k → k < suc f → filter (λ m. dep m == dep object + k) below ≡ level k object
    below_level k some within = sym (cond-false (dep object == dep object + k) _ _ (ne_eqb _ _ (λ same. absurd (omega arith)))) ∙ levels (suc f) k object within

    -- a match below stands no higher than the first level that has one
    no_higher : (to m : ℕ) → NoneOn passes object 1 to → among below m ≡ true → passes m ≡ true → dep m < dep object + to → ⊥
    no_higher to m none in' pass high =
        let deep = below_deeper f object m in' in
        let i = dep m - dep object in
        let at_i : dep m ≡ dep object + i = omega arith in
        let within : i < suc f = omega (arith, bounded m, positive object) in
        let on : among (level i object) m ≡ true = ap (λ l. among l m) (sym (below_level i (omega arith) within))
        ∙ (among-filter (λ m. dep m == dep object + i) below m ∙ (λ j. in' j && eq-eqb _ _ at_i j)) in
        none_at passes (level i object) (none i (omega arith) (omega arith)) m on pass

    -- what a search finds
    abbrev Nearest : Option ℕ → Type 0
    Nearest found = IsFirstAtLeast dep below passes found

    nearest_of : (found : Option ℕ) → FoundOn passes object 1 (1 + suc f) found → Nearest found
    nearest_of None none = false_from_ne_true _ (λ t. let h = any_at passes below t in no_higher (1 + suc f) h.0 none h.1 h.2 (omega (arith, bounded h.0)))
    nearest_of (Some x) on =
        let k = on.0 in
        let at_k : dep x ≡ dep object + k = level_depth k object x (found_in passes (level k object) x on.3) in
        let within : k < suc f = omega (arith, bounded x, positive object) in (
          find_both passes (λ m. dep m == dep x) below
              ∙ (ap (λ d. find passes (filter (λ m. dep m == d) below)) at_k ∙ (ap (find passes) (below_level k on.1 within) ∙ on.3)),
          false_from_ne_true _ (λ t.
              let h = any_at (λ m. passes m && nat_lt (dep m) (dep x)) below t in
              let both = and_parts (passes h.0) _ h.2 in
              no_higher k h.0 on.4 h.1 both.0 (omega (arith, ltb-true _ _ both.1))),
        )

    pub nearest : Nearest (found_within (suc f) rows passes (kids object))
    nearest = nearest_of _ (subst (λ l. FoundOn passes object 1 (1 + suc f) (found_within (suc f) rows passes l)) (append-nil (kids object))
        (found_on passes (suc f) 1 object))

module _ (forest : Forest) (sound : IsSound forest) where
  child_lower : (n c : ℕ) → among (children forest.rows (Some n)) c ≡ true → depth forest.rows c ≡ suc (depth forest.rows n)
  child_lower n c in' =
      let h = child_parent forest.rows n c sound.numbers_rise in' in
      ap length (sound.lines c h.1) ∙ ap (λ p. suc (length (line_at forest.rows p))) h.0

  depth_within : (m : ℕ) → depth forest.rows m ≤ length forest.rows
  unfolding line
  depth_within m = walk_within (parent_of forest.rows) (length forest.rows) m

  depth_positive : (f m : ℕ) → length forest.rows ≡ suc f → 1 ≤ depth forest.rows m
  unfolding line
  depth_positive f m e = subst (λ n. 1 ≤ length (walk (parent_of forest.rows) n m)) (sym e) (omega arith)

  -- in a forest of this many rows
  finds_within : (object : ℕ) (passes : ℕ → Bool) (n : ℕ) → length forest.rows ≡ n
      → IsFirstAtLeast (depth forest.rows) (drop 1 (preorder_within n forest.rows object)) passes
      (found_within n forest.rows passes (children forest.rows (Some object)))
  finds_within object passes zero e = refl
  finds_within object passes (suc f) e = nearest forest.rows (depth forest.rows) child_lower passes object f (λ m. omega (arith, depth_within m))
      (λ m. depth_positive f m e)

  pub finds_nearest : (object : ℕ) (passes : ℕ → Bool) → IsNearest forest.rows object passes (found_below forest.rows object passes)
  unfolding found_below all_below
  finds_nearest object passes = finds_within object passes (length forest.rows) refl
