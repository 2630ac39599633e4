-- What is left of a place without the connections that pass a test.
use Rattle.std.proofs.Common.{◌≡◌, ◌-◌, ◌<◌, ◌≤◌, Bool, false, not, is_some, List, [], ◌∷◌, length, filter, find, refl, arith, ⊎_elim}
use Rattle.std.specs.List.{list_any, count_by}
use Rattle.std.proofs.lemmas.Bool.{cases_Bool}
use Rattle.std.proofs.lemmas.Grind.{common_steps}
use Rattle.std.proofs.lemmas.List.Elements.{All-filter}
use Rattle.std.proofs.lemmas.List.Filters.{length-filter_both}
use Rattle.std.proofs.lemmas.List.Kept.{AllPairs-filter}
use Rattle.std.proofs.lemmas.List.Sums.{length-filter, count_by-le-length}
use Rattle.connection_list.specs.declared.connection.Connection.{Connection}
use Rattle.connection_list.specs.Rows.{Rows, IsSound, without}

-- the place stays sound
pub IsSound-without : (test : Connection → Bool) (place : Rows) → IsSound place → IsSound (without test place)
IsSound-without test place sound =
    let kept = λ (row : Connection). not (test row) in
    record {
      rising = AllPairs-filter (λ earlier later. earlier.number < later.number) kept place.rows sound.rising;
      from_one = All-filter kept (λ row. 1 ≤ row.number) place.rows sound.from_one;
      given = All-filter kept (λ row. row.number ≤ place.last_number) place.rows sound.given;
      fits = sound.fits;
      few = omega (arith, length-filter kept place.rows, count_by-le-length kept place.rows);
    }

-- as many go as passed
pub length-without : (test : Connection → Bool) (rows : List Connection) → length rows - length (filter (λ row. not (test row)) rows) ≡ count_by test rows
length-without test rows =
    omega (arith, length-filter_both test (λ row. not (test row)) (λ row. refl) rows, length-filter test rows)

-- where none passes, all stay
pub filter_all : (test : Connection → Bool) (rows : List Connection) → list_any test rows ≡ false → filter (λ row. not (test row)) rows ≡ rows
filter_all test [] none = refl
filter_all test (row ∷ rows) none =
    ⊎_elim (λ e. grind arith) (λ e. grind (arith, common_steps, filter_all test rows (grind (arith, e, none)))) (cases_Bool (test row))

-- one is found where any passes
pub any_found : (test : Connection → Bool) (rows : List Connection) → is_some (find test rows) ≡ list_any test rows
any_found test [] = refl
any_found test (row ∷ rows) = ⊎_elim (λ yes. rw yes refl) (λ no. rw no (any_found test rows)) (cases_Bool (test row))
