-- How many objects are there, and how many of them are not dying.
use Rattle.std.proofs.Common.{◌≡◌, ◌≤◌, ◌+◌, ℕ, suc, Bool, true, false, cond, List, [], ◌∷◌, length, map, filter, Option, Some, refl, ap, ◌∙◌, if◌then◌else◌}
use Rattle.std.proofs.Common.{⊎_elim, ltb, arith}
use Rattle.std.specs.Option.{option_map_or}
use Rattle.std.proofs.lemmas.List.{length-map}
use Rattle.std.proofs.lemmas.Bool.{cases_Bool}
use Rattle.session_model.proofs.Common.{Row, Forest, row_of, orphaned}
use Rattle.object_tree.specs.Rows.{has_number, has_parent, inserted, by_stamp, children}
use Rattle.object_tree.specs.Refusing.{keeps_parent}
use Rattle.object_tree.specs.Changes.{changed, moved, reparented}
use Rattle.session_model.specs.Agenda.{is_living}

abbrev pub living_rows : List Row → ℕ
living_rows rows = length (filter is_living rows)

-- taking rows out leaves no more of them
pub filter-fewer : {X : Type 0} (test : X → Bool) (xs : List X) → length (filter test xs) ≤ length xs
filter-fewer test [] = omega arith
filter-fewer test (x ∷ xs) = let rest = filter-fewer test xs in
    ⊎_elim (λ e. grind (arith, e, rest)) (λ e. grind (arith, e, rest)) (cases_Bool (test x))

inserted-length : (row : Row) (rows : List Row) → length (inserted row rows) ≡ suc (length rows)
inserted-length row [] = refl
inserted-length row (first ∷ rest) = let more = inserted-length row rest in
    ⊎_elim (λ e. grind (arith, e, more)) (λ e. grind (arith, e, more)) (cases_Bool (ltb row.stamp first.stamp))

by_stamp-length : (rows : List Row) → length (by_stamp rows) ≡ length rows
by_stamp-length [] = refl
by_stamp-length (row ∷ rows) = inserted-length row (by_stamp rows) ∙ ap suc (by_stamp-length rows)

-- an object has no more children than there are objects
pub few_children : (rows : List Row) (parent : Option ℕ) → length (children rows parent) ≤ length rows
unfolding children
few_children rows parent =
    let named = length-map (by_stamp (filter (has_parent parent) rows)) (λ row. row.number) in
    let sorted = by_stamp-length (filter (has_parent parent) rows) in
    let fewer = filter-fewer (has_parent parent) rows in
    omega (arith, named, sorted, fewer)

-- marking an object as dying leaves no more living ones
marked-fewer : (number : ℕ) (rows : List Row) → living_rows (changed (λ row. record row { dying = true }) number rows) ≤ living_rows rows
marked-fewer number [] = omega arith
marked-fewer number (row ∷ rows) = let rest = marked-fewer number rows in
    ⊎_elim
    (λ e. ⊎_elim (λ living. grind (arith, e, living, rest)) (λ dead. grind (arith, e, dead, rest)) (cases_Bool row.dying))
    (λ e. ⊎_elim (λ living. grind (arith, e, living, rest)) (λ dead. grind (arith, e, dead, rest)) (cases_Bool row.dying))
    (cases_Bool (has_number number row))

-- marking a living object as dying leaves fewer living ones
pub marked-one : (number : ℕ) (rows : List Row) → option_map_or is_living (row_of rows number) false ≡ true
    → suc (living_rows (changed (λ row. record row { dying = true }) number rows)) ≤ living_rows rows
marked-one number [] lives = absurd (cc)
marked-one number (row ∷ rows) lives = ⊎_elim
    (λ e. ⊎_elim (λ dying. absurd (grind (arith, e, dying, lives))) (λ living. grind (arith, e, living, marked-fewer number rows)) (cases_Bool row.dying))
    (λ e. let rest = marked-one number rows (grind (arith, e, lives)) in
    ⊎_elim (λ living. grind (arith, e, living, rest)) (λ dead. grind (arith, e, dead, rest)) (cases_Bool row.dying))
    (cases_Bool (has_number number row))

-- what becomes a root is as living as before
orphaned-living : (number : ℕ) (row : Row) → is_living (orphaned number row) ≡ is_living row
orphaned-living number row = ⊎_elim (λ e. grind (arith, e)) (λ e. grind (arith, e)) (cases_Bool (has_parent (Some number) row))

pub all_orphaned-living : (number : ℕ) (rows : List Row) → living_rows (map (orphaned number) rows) ≡ living_rows rows
all_orphaned-living number [] = refl
all_orphaned-living number (row ∷ rows) = let same = orphaned-living number row in let rest = all_orphaned-living number rows in
    ⊎_elim (λ e. grind (arith, e, same, rest)) (λ e. grind (arith, e, same, rest)) (cases_Bool row.dying)

pub filter-living : (test : Row → Bool) (rows : List Row) → living_rows (filter test rows) ≤ living_rows rows
filter-living test [] = omega arith
filter-living test (row ∷ rows) = let rest = filter-living test rows in
    ⊎_elim
    (λ e. ⊎_elim (λ d. grind (arith, e, d, rest)) (λ d. grind (arith, e, d, rest)) (cases_Bool row.dying))
    (λ e. ⊎_elim (λ d. grind (arith, e, d, rest)) (λ d. grind (arith, e, d, rest)) (cases_Bool row.dying))
    (cases_Bool (test row))

-- so many objects, and so many that are not dying, are there in both
pub record AreAsMany (one other : List Row) : Type 0 where
  pub objects : length one ≡ length other
  pub living : living_rows one ≡ living_rows other

-- a change of a row that leaves it as dying as it was leaves as many
pub changed-as_many : (change : Row → Row) (number : ℕ) → ((row : Row) → (change row).dying ≡ row.dying) → (rows : List Row)
    → AreAsMany (changed change number rows) rows
changed-as_many change number same rows = record { objects = length-map rows (λ row. if has_number number row then change row else row); living = by rows }
  where
    by : (rows : List Row) → living_rows (changed change number rows) ≡ living_rows rows
    by [] = refl
    by (row ∷ rows) = let rest = by rows in let its = same row in
        ⊎_elim
        (λ e. ⊎_elim (λ d. grind (arith, e, d, its, rest)) (λ d. grind (arith, e, d, its, rest)) (cases_Bool row.dying))
        (λ e. ⊎_elim (λ d. grind (arith, e, d, rest)) (λ d. grind (arith, e, d, rest)) (cases_Bool row.dying))
        (cases_Bool (has_number number row))

-- another parent of an object leaves as many
pub reparented-as_many : (forest : Forest) (object : ℕ) (parent : Option ℕ) → AreAsMany (reparented forest object parent).rows forest.rows
unfolding moved
reparented-as_many forest object parent = by (keeps_parent forest.rows object parent)
  where
    by : (keeps : Bool) → AreAsMany (cond keeps forest (moved forest object parent)).rows forest.rows
    by true = record { objects = refl; living = refl }
    by false = changed-as_many (λ row. record row { parent = parent; stamp = forest.last_stamp + 1 }) object (λ row. refl) forest.rows
