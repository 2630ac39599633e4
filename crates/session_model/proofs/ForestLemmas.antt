-- What holds of each object after each change of a forest.
use Rattle.std.proofs.Common.{◌≡◌, ◌+◌, ◌==◌, ℕ, Bool, true, false, not, cond, List, Option, Some, None, is_some, filter, get_or, refl, sym, ap, subst}
use Rattle.std.specs.List.{All}
use Rattle.std.specs.Option.{option_map_or}
use Rattle.std.proofs.lemmas.Bool.{eqb-true, not-true}
use Rattle.std.proofs.lemmas.List.Elements.{All-filter, All-map, All-push, All-weaker, filter_passes}
use Rattle.session_model.proofs.Common.{NoSuchObject, Row, Forest, is_there, row_of, object_refusal, orphaned}
use Rattle.plain_types.specs.declared.code.Code.TheVariants.{Dying}
use Rattle.object_tree.specs.Rows.{has_number, has_parent}
use Rattle.object_tree.specs.Refusing.{keeps_parent}
use Rattle.object_tree.specs.Changes.{added, changed, marked, moved, removed, reparented, with_blocked}
use Rattle.session_model.proofs.FilterLemmas.{find-passes, of_found}

-- what holds of each row after some are changed
each_changed : (P Q : Row → Type 0) (change : Row → Row) (number : ℕ) → ((row : Row) → has_number number row ≡ true → P row → Q (change row))
    → ((row : Row) → has_number number row ≡ false → P row → Q row) → (rows : List Row) → All P rows → All Q (changed change number rows)
each_changed P Q change number here others rows all =
    All-map Q (λ row. cond (has_number number row) (change row) row) rows
    (All-weaker P (λ row. Q (cond (has_number number row) (change row) row)) (λ row. one row (has_number number row) refl) rows all)
  where
    one : (row : Row) (is : Bool) → has_number number row ≡ is → P row → Q (cond is (change row) row)
    one row true is holds = here row is holds
    one row false is holds = others row is holds

-- something that is said of an object by its number, its class and whether it is dying
module _ (G : ℕ → ℕ → Bool → Type 0) where
  abbrev pub Of : Row → Type 0
  Of row = G row.number row.class row.dying

  abbrev pub OfEach : List Row → Type 0
  OfEach rows = All Of rows

  -- it holds of a new object where it holds of its number and class, living
  pub each_added : (forest : Forest) (parent : Option ℕ) (class : ℕ) → G (forest.last_number + 1) class false → OfEach forest.rows
      → OfEach (added forest parent class).rows
  unfolding added
  each_added forest parent class new all = All-push Of forest.rows _ all new

  -- of what moves, and of what is blocked, or not, it still holds
  pub each_reparented : (forest : Forest) (number : ℕ) (parent : Option ℕ) → OfEach forest.rows → OfEach (reparented forest number parent).rows
  unfolding moved
  each_reparented forest number parent all = by (keeps_parent forest.rows number parent)
    where
      by : (keeps : Bool) → OfEach (cond keeps forest (moved forest number parent)).rows
      by true = all
      by false = each_changed Of Of (λ row. record row { parent = parent; stamp = forest.last_stamp + 1 }) number (λ row is holds. holds)
          (λ row is holds. holds) forest.rows all

  pub each_blocked : (forest : Forest) (number : ℕ) (on : Bool) → OfEach forest.rows → OfEach (with_blocked forest number on).rows
  unfolding with_blocked
  each_blocked forest number on all =
      each_changed Of Of (λ row. record row { blocked = on }) number (λ row is holds. holds) (λ row is holds. holds) forest.rows all

  -- of a row with this number it holds, where it is looked for
  pub of_row : (rows : List Row) (number : ℕ) (row : Row) → row_of rows number ≡ Some row → OfEach rows → G number row.class row.dying
  of_row rows number row found all = subst (λ n. G n row.class row.dying)
      (eqb-true row.number number (find-passes (has_number number) rows row found)) (of_found Of (has_number number) rows row found all)

-- it holds after an object began to die
pub each_marked : (G H : ℕ → ℕ → Bool → Type 0) (forest : Forest) (number : ℕ) → ((class : ℕ) (dying : Bool) → G number class dying → H number class true)
    → ((n class : ℕ) (dying : Bool) → (n == number) ≡ false → G n class dying → H n class dying) → OfEach G forest.rows → OfEach H (marked forest number).rows
unfolding marked
each_marked G H forest number here others all = each_changed (Of G) (Of H) (λ row. record row { dying = true }) number
    (λ row is holds. subst (λ n. H n row.class true) (sym (eqb-true row.number number is))
    (here row.class row.dying (subst (λ n. G n row.class row.dying) (eqb-true row.number number is) holds)))
    (λ row is. others row.number row.class row.dying is) forest.rows all

-- and of what stays after an object has gone
pub each_removed : (G H : ℕ → ℕ → Bool → Type 0) (forest : Forest) (number : ℕ)
    → ((n class : ℕ) (dying : Bool) → (n == number) ≡ false → G n class dying → H n class dying)
    → OfEach G forest.rows → OfEach H (removed forest number).rows
unfolding removed
each_removed G H forest number others all = All-map (Of H) (orphaned number) kept
    (λ index default within. root (get_or kept index default) (has_parent (Some number) (get_or kept index default))
    (others (get_or kept index default).number (get_or kept index default).class (get_or kept index default).dying
    (not-true (has_number number (get_or kept index default)) (filter_passes (λ row. not (has_number number row)) forest.rows index default within))
    (All-filter (λ row. not (has_number number row)) (Of G) forest.rows all index default within)))
  where
    kept : List Row
    kept = filter (λ row. not (has_number number row)) forest.rows

    root : (row : Row) (child : Bool) → Of H row → Of H (cond child (record row { parent = None }) row)
    root row true holds = holds
    root row false holds = holds

-- an object that is not refused stands, and lives
pub record Stands (rows : List Row) (number : ℕ) : Type 0 where
  pub there : is_there rows number ≡ true
  pub row : Row
  pub found : row_of rows number ≡ Some row
  pub living : row.dying ≡ false

pub stands_living : (rows : List Row) (number : ℕ) → object_refusal rows number ≡ None → Stands rows number
stands_living rows number passed = by (row_of rows number) refl passed
  where
    lives : (row : Row) (dying : Bool) → cond dying (Some Dying) None ≡ None → dying ≡ false
    lives row true e = absurd (cc)
    lives row false e = refl

    by : (found : Option Row) → row_of rows number ≡ found → option_map_or (λ (row : Row). cond row.dying (Some Dying) None) found (Some NoSuchObject) ≡ None
        → Stands rows number
    by None is e = absurd (cc)
    by (Some row) is e = record { there = ap is_some is; row = row; found = is; living = lives row row.dying e }
