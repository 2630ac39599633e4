-- Rows with their keys, and the same rows without.
use Rattle.std.proofs.Common.{◌≡◌, ◌≢◌, ◌∙◌, ℕ, suc, Bool, true, false, not, ◌||◌, List, [], ◌∷◌, Option, Some, None, map, filter, find, refl, sym, ap, arith}
use Rattle.std.proofs.Common.{⊎_elim}
use Rattle.std.specs.List.{All, AllPairs, Contains, list_any}
use Rattle.std.specs.Option.{option_map}
use Rattle.std.proofs.lemmas.Bool.{cases_Bool, cases_eq, eq-eqb, ne_eqb}
use Rattle.std.proofs.lemmas.List.Elements.{All-contains}
use Rattle.shared_rows.specs.Rows.{Keyed, row_under, without}
use Rattle.shared_rows.proofs.LinkedLemmas.{contains_cases, contains_later}

module _ {R : Type 0} where
  abbrev pub IsApart : List (Keyed R) → Type 0
  IsApart rows = AllPairs (λ earlier later. earlier.key ≢ later.key) rows

  pub find_map : (test : R → Bool) (rows : List (Keyed R)) → find test (map (λ keyed. keyed.row) rows)
      ≡ option_map (λ keyed. keyed.row) (find (λ keyed. test keyed.row) rows)
  find_map test [] = refl
  find_map test (first ∷ rows) = ⊎_elim (λ yes. rw yes refl) (λ no. rw no (find_map test rows))
      (cases_Bool (test first.row))

  pub any_map : (test : R → Bool) (rows : List (Keyed R)) → list_any test (map (λ keyed. keyed.row) rows) ≡ list_any (λ keyed. test keyed.row) rows
  any_map test [] = refl
  any_map test (first ∷ rows) = ap (λ rest. test first.row || rest) (any_map test rows)

  pub filter_map : (test : R → Bool) (rows : List (Keyed R)) → filter test (map (λ keyed. keyed.row) rows)
      ≡ map (λ keyed. keyed.row) (filter (λ keyed. test keyed.row) rows)
  filter_map test [] = refl
  filter_map test (first ∷ rows) = ⊎_elim (λ yes. rw yes (ap (λ rest. first.row ∷ rest) (filter_map test rows)))
      (λ no. rw no (filter_map test rows)) (cases_Bool (test first.row))

  -- what is found stands there, and passes
  pub find_stands : (test : Keyed R → Bool) (rows : List (Keyed R)) (keyed : Keyed R) → find test rows ≡ Some keyed → Contains rows keyed × (test keyed ≡ true)
  find_stands test [] keyed found = absurd (cc)
  find_stands test (first ∷ rows) keyed found = ⊎_elim
      (λ yes.
      let is : Some first ≡ Some keyed = rw yes at found in
      let same : first ≡ keyed = cc in
      ((0, omega arith, same), ap test (sym same) ∙ yes))
      (λ no. let rest = find_stands test rows keyed (rw no at found) in (contains_later first keyed rows rest.0, rest.1))
      (cases_Bool (test first))

  -- a row stands under its key
  pub under_key : (rows : List (Keyed R)) (keyed : Keyed R) → IsApart rows → Contains rows keyed → row_under rows keyed.key ≡ Some keyed.row
  under_key [] keyed apart there = absurd (omega arith)
  under_key (first ∷ rows) keyed apart there = ⊎_elim
      (λ (here : first ≡ keyed). rw (eq-eqb first.key keyed.key (ap (λ (k : Keyed R). k.key) here)) (ap (λ (k : Keyed R). Some k.row) here))
      (λ later.
      let differ = All-contains (λ (k : Keyed R). first.key ≢ k.key) rows keyed (λ k d within. apart 0 (suc k) d (omega arith) (omega arith)) later in
      rw (ne_eqb first.key keyed.key differ) (under_key rows keyed (λ i j d below within. apart (suc i) (suc j) d (omega arith) (omega arith)) later))
      (contains_cases first keyed rows there)

  -- and what stands under a key is there
  pub stands_under : (rows : List (Keyed R)) (key : ℕ) (row : R) → row_under rows key ≡ Some row → Contains rows (record { key = key; row = row })
  stands_under [] key row stands = absurd (cc)
  stands_under (first ∷ rows) key row stands = ⊎_elim
      (λ same.
      let is : Some first.row ≡ Some row = rw (eq-eqb first.key key same) at stands in
      let same_row : first.row ≡ row = cc in
      (0, omega arith, ap (λ k. record { key = k; row = first.row }) same ∙ ap (λ r. record { key = key; row = r }) same_row))
      (λ differ. contains_later first (record { key = key; row = row }) rows
      (stands_under rows key row (rw (ne_eqb first.key key differ) at stands)))
      (cases_eq first.key key)

  -- no other row has its key
  pub only_under : (rows : List (Keyed R)) (key : ℕ) (row : R) → IsApart rows → row_under rows key ≡ Some row → (keyed : Keyed R) → Contains rows keyed
      → keyed.key ≡ key → keyed.row ≡ row
  only_under rows key row apart stands keyed there same =
      let under : row_under rows keyed.key ≡ Some keyed.row = under_key rows keyed apart there in
      let moved : row_under rows key ≡ Some keyed.row = ap (row_under rows) (sym same) ∙ under in
      cc (moved, stands)

  -- rows that are all gone without a key are gone with it
  pub filter_without : (keep : Keyed R → Bool) (rows : List (Keyed R)) (key : ℕ) → All (λ keyed. keyed.key ≡ key → keep keyed ≡ false) rows
      → filter keep (without rows key) ≡ filter keep rows
  filter_without keep [] key goes = refl
  filter_without keep (first ∷ rows) key goes =
      let rest = filter_without keep rows key (λ k d within. goes (suc k) d (omega arith)) in
      ⊎_elim
      (λ same. let drops : keep first ≡ false = goes 0 first (omega arith) same in rw (eq-eqb first.key key same, drops) rest)
      (λ differ.
      rw (ne_eqb first.key key differ) (⊎_elim (λ yes. rw yes (ap (λ list. first ∷ list) rest)) (λ no. rw no rest)
      (cases_Bool (keep first))))
      (cases_eq first.key key)

  -- where none goes, all stay
  pub filter_all : (gone : Keyed R → Bool) (rows : List (Keyed R)) → All (λ keyed. gone keyed ≡ false) rows → filter (λ keyed. not (gone keyed)) rows ≡ rows
  filter_all gone [] none = refl
  filter_all gone (first ∷ rows) none = let here : gone first ≡ false = none 0 first (omega arith) in rw here
      (ap (λ rest. first ∷ rest) (filter_all gone rows (λ k d within. none (suc k) d (omega arith))))

  -- where a key was found, the row under it is what is found without keys
  pub record IsFound (test : R → Bool) (rows : List (Keyed R)) (key : ℕ) : Type 0 where
    pub row : R
    pub stands : row_under rows key ≡ Some row
    pub is : find test (map (λ keyed. keyed.row) rows) ≡ Some row

  pub found_under : (test : R → Bool) (rows : List (Keyed R)) (key : ℕ) → IsApart rows
      → Some key ≡ option_map (λ keyed. keyed.key) (find (λ keyed. test keyed.row) rows) → IsFound test rows key
  found_under test rows key apart found = by (find (λ keyed. test keyed.row) rows) refl found
    where
      by : (o : Option (Keyed R)) → o ≡ find (λ keyed. test keyed.row) rows → Some key ≡ option_map (λ (keyed : Keyed R). keyed.key) o → IsFound test rows key
      by None is found = absurd (cc)
      by (Some keyed) is found =
          let same : key ≡ keyed.key = cc in
          record {
            row = keyed.row;
            stands = ap (row_under rows) same ∙ under_key rows keyed apart (find_stands (λ k. test k.row) rows keyed (sym is)).0;
            is = find_map test rows ∙ ap (option_map (λ (k : Keyed R). k.row)) (sym is);
          }

  pub found_none : (test : R → Bool) (rows : List (Keyed R)) → None ≡ option_map (λ keyed. keyed.key) (find (λ keyed. test keyed.row) rows)
      → None ≡ find test (map (λ keyed. keyed.row) rows)
  found_none test rows found = by (find (λ keyed. test keyed.row) rows) refl found
    where
      by : (o : Option (Keyed R)) → o ≡ find (λ keyed. test keyed.row) rows → None ≡ option_map (λ (keyed : Keyed R). keyed.key) o
          → None ≡ find test (map (λ keyed. keyed.row) rows)
      by None is found = sym (find_map test rows ∙ ap (option_map (λ (k : Keyed R). k.row)) (sym is))
      by (Some keyed) is found = absurd (cc)

  -- tests that agree on each row keep the same rows
  pub filter_alike : (p q : Keyed R → Bool) (rows : List (Keyed R)) → All (λ keyed. p keyed ≡ q keyed) rows
      → filter (λ keyed. not (p keyed)) rows ≡ filter (λ keyed. not (q keyed)) rows
  filter_alike p q [] alike = refl
  filter_alike p q (first ∷ rows) alike =
      let here : p first ≡ q first = alike 0 first (omega arith) in
      rw (here, filter_alike p q rows (λ k d within. alike (suc k) d (omega arith))) refl
