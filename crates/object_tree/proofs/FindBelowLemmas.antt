-- The search by levels.
use Rattle.std.proofs.Common.{◌≡◌, ℕ, suc, zero, ◌+◌, ◌-◌, ◌<◌, ◌≤◌, cond, length, Bool, true, false, List, [], ◌∷◌, ◌++◌, Option, Some, None, find, refl, sym}
use Rattle.std.proofs.Common.{ap, ◌∙◌, arith}
use Rattle.std.specs.Option.{option_or, is_some}
use Rattle.object_tree.specs.declared.row.Row.{Row}
use Rattle.object_tree.specs.Rows.{children}
use Rattle.object_tree.specs.Finding.{below_by_depth, children_of, found_below, found_within, levels_from}

-- nothing is found below nothing
pub found_nothing : (most : ℕ) (rows : List Row) (passes : ℕ → Bool) → found_within most rows passes [] ≡ None
found_nothing zero rows passes = refl
found_nothing (suc most) rows passes = found_nothing most rows passes

-- one level on
pub found_more : (n i : ℕ) (rows : List Row) (passes : ℕ → Bool) (level : List ℕ) → i < n
    → found_within (n - i) rows passes level ≡ option_or (find passes level) (found_within (n - (i + 1)) rows passes (children_of rows level))
found_more n i rows passes level h =
    let e : n - i ≡ suc (n - (i + 1)) = omega arith in
    rw e refl

some_first : (o rest : Option ℕ) → is_some o ≡ true → option_or o rest ≡ o
some_first None rest e = absurd (cc)
some_first (Some x) rest e = refl

none_first : (o rest : Option ℕ) → is_some o ≡ false → option_or o rest ≡ rest
none_first None rest e = refl
none_first (Some x) rest e = absurd (cc)

-- one level of a search that finds `all` in the end
module _ (n i : ℕ) (rows : List Row) (passes : ℕ → Bool) (level : List ℕ) (all : Option ℕ) (within : i < n)
    (whole : found_within (n - i) rows passes level ≡ all) where
  pub none_left : level ≡ [] → None ≡ all
  none_left e = sym (found_nothing (n - i) rows passes) ∙ (ap (found_within (n - i) rows passes) (sym e) ∙ whole)

  pub found_here : (found : Option ℕ) → found ≡ find passes level → is_some found ≡ true → found ≡ all
  found_here found is some = sym (some_first found _ some)
      ∙ (ap (λ o. option_or o (found_within (n - (i + 1)) rows passes (children_of rows level))) is ∙ (sym (found_more n i rows passes level within) ∙ whole))

  pub found_later : (found : Option ℕ) → found ≡ find passes level → is_some found ≡ false
      → found_within (n - (i + 1)) rows passes (children_of rows level) ≡ all
  found_later found is none = sym (none_first found _ none) ∙
      (ap (λ o. option_or o (found_within (n - (i + 1)) rows passes (children_of rows level))) is ∙ (sym (found_more n i rows passes level within) ∙ whole))

-- below nothing there are no levels
pub no_level : (most : ℕ) (rows : List Row) → levels_from most rows [] ≡ []
no_level zero rows = refl
no_level (suc most) rows = no_level most rows

-- the levels, one level on
pub level_more : (n i : ℕ) (rows : List Row) (level : List ℕ) → i < n
    → levels_from (n - i) rows level ≡ level ++ levels_from (n - (i + 1)) rows (children_of rows level)
level_more n i rows level h =
    let e : n - i ≡ suc (n - (i + 1)) = omega arith in
    rw e refl

-- and at the end
pub level_none : (n i : ℕ) (rows : List Row) (level : List ℕ) → n ≤ i → levels_from (n - i) rows level ≡ []
level_none n i rows level h =
    let e : n - i ≡ zero = omega arith in
    rw e refl

find_behind : (passes : ℕ → Bool) (xs ys : List ℕ) → find passes (xs ++ ys) ≡ option_or (find passes xs) (find passes ys)
find_behind passes [] ys = refl
find_behind passes (x ∷ xs) ys = by (passes x) (find_behind passes xs ys)
  where
    by : (b : Bool) → find passes (xs ++ ys) ≡ option_or (find passes xs) (find passes ys)
        → cond b (Some x) (find passes (xs ++ ys)) ≡ option_or (cond b (Some x) (find passes xs)) (find passes ys)
    by true later = refl
    by false later = later

first_within : (most : ℕ) (rows : List Row) (passes : ℕ → Bool) (level : List ℕ)
    → find passes (levels_from most rows level) ≡ found_within most rows passes level
first_within zero rows passes level = refl
first_within (suc most) rows passes level =
    find_behind passes level (levels_from most rows (children_of rows level))
    ∙ ap (option_or (find passes level)) (first_within most rows passes (children_of rows level))

-- the first of all objects below another one that pass is the one that is found
pub first_of_all : (rows : List Row) (object : ℕ) (passes : ℕ → Bool) → find passes (below_by_depth rows object) ≡ found_below rows object passes
unfolding below_by_depth found_below
first_of_all rows object passes = first_within (length rows) rows passes (children rows (Some object))
