-- What is listed and counted of the connections of a place, one after another.
use Rattle.std.proofs.Common.{◌≡◌, ◌∙◌, ℕ, zero, suc, ◌+◌, ◌<◌, ◌≤◌, ◌^◌, Bool, true, false, cond, List, [], ◌∷◌, ◌++◌, length, map, filter, count_by, take}
use Rattle.std.proofs.Common.{drop, refl, sym, ap, arith, append_assoc}
use Rattle.std.proofs.lemmas.List.{at_drop_more, drop-map, drop_all, length-append}
use Rattle.std.proofs.lemmas.List.Elements.{filter-append}
use Rattle.std.proofs.lemmas.List.Sums.{count_by-le-length, sum_by-cons}
use Rattle.shared_rows.specs.Rows.{IsAtPosition, Keyed}
use Rattle.shared_rows.specs.Rows as shared
use Rattle.shared_rows.specs.Table.{Table}
use Rattle.connection_list.specs.declared.connection.Connection.{Connection}
use Rattle.connection_list.specs.declared.routes.Routes.{Routes}
use Rattle.connection_list.specs.Rows.{Rows}
use Rattle.connection_list.specs.Table.{rows_at}
use Rattle.connection_list.proofs.SeenLemmas.{IsSeen, shown_count}

-- so many elements in front
pub take_first : {X : Type 0} (n : ℕ) (xs ys : List X) → length xs ≡ n → take n (xs ++ ys) ≡ xs
take_first zero [] ys h = refl
take_first zero (x ∷ xs) ys h = absurd (omega arith)
take_first (suc n) [] ys h = absurd (omega arith)
take_first (suc n) (x ∷ xs) ys h = ap (λ rest. x ∷ rest) (take_first n xs ys (omega arith))

-- and no more than there are
pub take_short : {X : Type 0} (n : ℕ) (xs : List X) → length xs ≤ n → take n xs ≡ xs
take_short zero [] h = refl
take_short zero (x ∷ xs) h = absurd (omega arith)
take_short (suc n) [] h = refl
take_short (suc n) (x ∷ xs) h = ap (λ rest. x ∷ rest) (take_short n xs (omega arith))

module _ {X : Type 0} (test : X → Bool) (found more left : List X) (row : X) (added : more ≡ found ++ filter test (row ∷ [])) where
  -- one row on, what was found and what is yet to be found are the same
  pub found_on : more ++ filter test left ≡ found ++ filter test (row ∷ left)
  found_on = ap (λ l. l ++ filter test left) added
      ∙ (append_assoc found (filter test (row ∷ [])) (filter test left) ∙ ap (λ l. found ++ l) (sym (filter-append test (row ∷ []) left)))

  one_at_most : (b : Bool) → length (cond b (row ∷ []) []) ≤ 1
  one_at_most true = omega arith
  one_at_most false = omega arith

  -- and no more than one more is found
  pub found_few : length more ≤ length found + 1
  found_few = omega (arith, ap length added, length-append found (filter test (row ∷ [])), one_at_most (test row))

module _ {rows : Table (List (Keyed Connection))} {routes : Table Routes} {table : Table Rows} {place : ℕ} {at : Routes}
    (seen : IsSeen rows routes table place at) where
  -- the connection at a position is the first of those that are left
  pub next_row : (position key : ℕ) (row : Connection) → IsAtPosition (shared.rows_at rows place) position key row
      → position < length (shared.rows_at rows place)
      → drop position (rows_at table place).rows ≡ row ∷ drop (position + 1) (rows_at table place).rows
  next_row position key row is within =
      let keyed = shared.rows_at rows place in
      let seen_from : (n : ℕ) → drop n (rows_at table place).rows ≡ map (λ (k : Keyed Connection). k.row) (drop n keyed) =
      λ n. ap (λ (p : Rows). drop n p.rows) seen.shows ∙ drop-map (λ (k : Keyed Connection). k.row) n keyed in
      let first : Keyed Connection = record { key = key; row = row } in
      seen_from position
      ∙ (ap (map (λ (k : Keyed Connection). k.row)) (at_drop_more (λ l. l) keyed position first within ∙ ap (λ k. k ∷ drop (position + 1) keyed) (is first))
      ∙ ap (λ rest. row ∷ rest) (sym (seen_from (position + 1))))

  -- there are no more of them than a number of 32 bits
  pub few_rows : (test : Connection → Bool) → count_by test (rows_at table place).rows < 2 ^ 31
  few_rows test = omega (arith, count_by-le-length test (rows_at table place).rows, ap (λ (p : Rows). length p.rows) seen.shows)

  -- what was counted up to a position, and what is yet to be counted
  module _ (test : Connection → Bool) where
    abbrev pub IsCounted : ℕ → ℕ → Type 0
    IsCounted position count = count + count_by test (drop position (rows_at table place).rows) ≡ count_by test (rows_at table place).rows

    module _ (position key count one : ℕ) (row : Connection) (is : IsAtPosition (shared.rows_at rows place) position key row)
        (within : position < length (shared.rows_at rows place)) (one_is : one ≡ cond (test row) 1 0) (counted : IsCounted position count) where
      pub counted_more : IsCounted (position + 1) (count + one)
      counted_more = omega (
        arith,
        sum_by-cons (λ x. cond (test x) 1 0) row (drop (position + 1) (rows_at table place).rows),
        ap (count_by test) (next_row position key row is within),
      )

      pub counted_few : count + one < 2 ^ 31
      counted_few = omega (arith, few_rows test, counted_more)

    pub counted_all : (position count : ℕ) → length (shared.rows_at rows place) ≤ position → IsCounted position count
        → count ≡ count_by test (rows_at table place).rows
    counted_all position count whole counted = omega (
      arith,
      ap (count_by test) (drop_all position (rows_at table place).rows
          (omega (arith, whole, shown_count seen))),
    )
