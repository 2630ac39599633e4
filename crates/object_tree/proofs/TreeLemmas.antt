-- Trees: each object has a rank above that of its parent, and so its line ends.
use Rattle.std.proofs.Common.{◌≡◌, ℕ, suc, zero, ◌+◌, ◌<◌, ◌≤◌, ◌==◌, Bool, true, false, cond, List, [], ◌∷◌, Option, Some, None, length, refl, ap, ◌∙◌, arith}
use Rattle.std.proofs.Common.{nat_lt}
use Rattle.std.specs.Option.{option_map_or, is_some}
use Rattle.std.proofs.lemmas.Bool.{eqb-true}
use Rattle.std.proofs.lemmas.Bool.Decides.{nat_tests}
use Rattle.object_tree.specs.declared.row.Row.{Row}
use Rattle.object_tree.specs.declared.row.TheConstants.{DEPTH}
use Rattle.object_tree.specs.Rows.{is_there, parent_of, row_of}
use Rattle.object_tree.specs.Lines.{depth, depth_at, line, line_at, walk}
use Rattle.object_tree.specs.Forest.{Forest, IsSound}

-- each parent is there and ranks lower, and no object ranks too deep
pub record AreRanked (rows : List Row) (rank : ℕ → ℕ) : Type 0 where
  pub parents : (n p : ℕ) → parent_of rows n ≡ Some p → (is_there rows p ≡ true) × (rank p < rank n)
  pub shallow : (n : ℕ) → is_there rows n ≡ true → rank n < DEPTH

-- how many stand above an object
abbrev pub above : List Row → ℕ → ℕ
above rows n = depth_at rows (parent_of rows n)

module _ (forest : Forest) (sound : IsSound forest) where
  -- one stands more above an object than above its parent
  pub above_parent : (n p : ℕ) → parent_of forest.rows n ≡ Some p → above forest.rows n ≡ suc (above forest.rows p)
  above_parent n p is = ap (depth_at forest.rows) is ∙ ap length (sound.lines p (sound.parents n p is))

  pub ranked_above : AreRanked forest.rows (above forest.rows)
  ranked_above = record {
    parents = λ n p is. (sound.parents n p is, omega (arith, above_parent n p is));
    shallow = λ n there. omega (arith, ap length (sound.lines n there), sound.depths n there);
  }

pub walk_within : (up : ℕ → Option ℕ) (f n : ℕ) → length (walk up f n) ≤ f
walk_within up zero n = omega arith
walk_within up (suc f) n = by (λ p. walk_within up f p) (up n)
  where
    by : ((p : ℕ) → length (walk up f p) ≤ f) → (o : Option ℕ) → length (n ∷ option_map_or (walk up f) o []) ≤ suc f
    by rest None = omega arith
    by rest (Some p) = omega (arith, rest p)

-- how many rank lower
abbrev lower : (ℕ → ℕ) → List Row → ℕ → ℕ
lower rank [] bound = 0
lower rank (row ∷ rest) bound = cond (nat_lt (rank row.number) bound) 1 0 + lower rank rest bound

lower_within : (rank : ℕ → ℕ) (rows : List Row) (bound : ℕ) → lower rank rows bound ≤ length rows
lower_within rank [] bound = omega arith
lower_within rank (row ∷ rest) bound = grind (arith, nat_tests, lower_within rank rest bound)

lower_more : (rank : ℕ → ℕ) (rows : List Row) (low bound : ℕ) → low ≤ bound → lower rank rows low ≤ lower rank rows bound
lower_more rank [] low bound le = omega arith
lower_more rank (row ∷ rest) low bound le = grind (arith, nat_tests, lower_more rank rest low bound le)

-- one that is there ranks below each higher bound, and not below its own rank
lower_there : (rank : ℕ → ℕ) (rows : List Row) (p bound : ℕ) → is_there rows p ≡ true → rank p < bound → lower rank rows (rank p) < lower rank rows bound
lower_there rank [] p bound there less = absurd (cc)
lower_there rank (row ∷ rest) p bound there less = by (row.number == p) refl there (λ later. lower_there rank rest p bound later less)
  where
    by : (b : Bool) → (row.number == p) ≡ b → is_some (cond b (Some row) (row_of rest p)) ≡ true
        → (is_there rest p ≡ true → lower rank rest (rank p) < lower rank rest bound) → lower rank (row ∷ rest) (rank p) < lower rank (row ∷ rest) bound
    by true is there later = grind (arith, nat_tests, ap rank (eqb-true row.number p is), lower_more rank rest (rank p) bound (omega arith))
    by false is there later = grind (arith, nat_tests, later there, lower_more rank rest (rank p) bound (omega arith))

module _ (rows : List Row) (rank : ℕ → ℕ) (ranked : AreRanked rows rank) where
  -- a walk of as many steps as objects rank lower, and one, has all that a longer one has
  settled : (f n : ℕ) → lower rank rows (rank n) < f → walk (parent_of rows) f n ≡ walk (parent_of rows) (suc f) n
  settled zero n few = absurd (omega arith)
  settled (suc f) n few = by (λ p. settled f p) (parent_of rows n) refl
    where
      by : ((p : ℕ) → lower rank rows (rank p) < f → walk (parent_of rows) f p ≡ walk (parent_of rows) (suc f) p) → (o : Option ℕ) → parent_of rows n ≡ o
          → n ∷ option_map_or (walk (parent_of rows) f) o [] ≡ n ∷ option_map_or (walk (parent_of rows) (suc f)) o []
      by rest None is = refl
      by rest (Some p) is =
          let up = ranked.parents n p is in
          ap (λ l. n ∷ l) (rest p (omega (arith, lower_there rank rows p (rank n) up.0 up.1)))

  short : (f n : ℕ) → length (walk (parent_of rows) f n) ≤ suc (rank n)
  short zero n = omega arith
  short (suc f) n = by (λ p. short f p) (parent_of rows n) refl
    where
      by : ((p : ℕ) → length (walk (parent_of rows) f p) ≤ suc (rank p)) → (o : Option ℕ) → parent_of rows n ≡ o
          → length (n ∷ option_map_or (walk (parent_of rows) f) o []) ≤ suc (rank n)
      by rest None is = omega arith
      by rest (Some p) is = omega (arith, rest p, (ranked.parents n p is).1)

  pub line_of : (n : ℕ) → is_there rows n ≡ true → line rows n ≡ n ∷ line_at rows (parent_of rows n)
  unfolding line
  line_of n there = settled (length rows) n (omega (arith, lower_there rank rows n (suc (rank n)) there (omega arith), lower_within rank rows (suc (rank n))))

  pub depth_within : (n : ℕ) → is_there rows n ≡ true → depth rows n ≤ DEPTH
  unfolding line
  depth_within n there = omega (arith, short (length rows) n, ranked.shallow n there)
