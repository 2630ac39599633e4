-- Stores in rows.
use Rattle.std.proofs.Common.{◌≡◌, ◌≢◌, ◌∙◌, ℕ, ◌<◌, ◌≤◌, ◌==◌, nat_lt, true, false, List, ◌∷◌, ◌++◌, Some, None, filter, find, length, get_or, sym, ap, arith}
use Rattle.std.proofs.Common.{⊎_elim, rules}
use Rattle.std.specs.List.{All}
use Rattle.std.specs.Option.{option_map}
use Rattle.std.proofs.lemmas.Bool.{cases_eq, cases_lt, eq-eqb, ne_eqb, eqb-true}
use Rattle.std.proofs.lemmas.List.{map-append}
use Rattle.std.proofs.lemmas.List.Elements.{All-map}
use Rattle.shared_rows.specs.Rows.{IsSound, Keyed, inserted, key_of, row_under, with_row, without}
use Rattle.property_store.specs.declared.field.Field.{Field}
use Rattle.property_store.specs.declared.row.Row.{Row}
use Rattle.property_store.specs.Inside.{next_number, row_of, shown, store_of}
use Rattle.property_store.specs.Store.{Properties, changed, next_object, properties_of}
use Rattle.property_store.specs.Store as store
use Rattle.property_store.proofs.ListLemmas.{filter_all, filter_at, filter_over_map, find_over_map, found, map_at, map_over_map, map_same, mapped, none_passes}
use Rattle.property_store.proofs.ListLemmas.{unmapped}

abbrev pub number : Row → ℕ
number row = row.object

-- the row under a key is that of the number
pub record IsRowOf (rows : List (Keyed Row)) (key n : ℕ) (row : Row) : Type 0 where
  pub numbered : row.object ≡ n
  pub found : row_of rows n ≡ Some row
  -- it alone has the key and the number
  pub alone : All (λ keyed. ((keyed.key == key) ≡ (keyed.row.object == n)) × ((keyed.key == key) ≡ true → keyed.row ≡ row)) rows

module _ (rows : List (Keyed Row)) (sound : IsSound number rows) where
  apart : (i j : ℕ) (d : Keyed Row) → i < length rows → j < length rows → i ≢ j
      → ((get_or rows i d).row.object ≢ (get_or rows j d).row.object) × ((get_or rows i d).key ≢ (get_or rows j d).key)
  apart i j d within_i within_j differ = ⊎_elim
      (λ (before : i < j). (λ same. absurd (omega (arith, sound.rising i j d before within_j, same)), sound.apart i j d before within_j))
      (λ (behind : j ≤ i).
      let before : j < i = omega (arith, behind, differ) in
      (λ same. absurd (omega (arith, sound.rising j i d before within_i, same)), λ same. sound.apart j i d before within_i (sym same)))
      (cases_lt i j)

  pub row_stands : (key n : ℕ) (row : Row) → key_of number rows n ≡ Some key → row_under rows key ≡ Some row → IsRowOf rows key n row
  row_stands key n row is under =
      let one = mapped (λ (keyed : Keyed Row). keyed.key) (find (λ keyed. keyed.row.object == n) rows) key is in
      let other = mapped (λ (keyed : Keyed Row). keyed.row) (find (λ keyed. keyed.key == key) rows) row under in
      let here = found (λ (keyed : Keyed Row). keyed.row.object == n) rows one.x one.is in
      let there = found (λ (keyed : Keyed Row). keyed.key == key) rows other.x other.is in
      let d = one.x in
      let other_key : other.x.key ≡ key = eqb-true _ _ there.passes in
      let same_place : here.at ≡ there.at = ⊎_elim
      (λ (same : here.at ≡ there.at). same)
      (λ (differ : here.at ≢ there.at). absurd
      ((apart here.at there.at d here.within there.within differ).1
      (ap (λ (keyed : Keyed Row). keyed.key) (here.is d) ∙ (one.gives ∙ (sym other_key ∙ ap (λ (keyed : Keyed Row). keyed.key) (sym (there.is d)))))))
      (cases_eq here.at there.at) in
      let same : one.x ≡ other.x = sym (here.is d) ∙ (ap (λ at. get_or rows at d) same_place ∙ there.is d) in
      let numbered : one.x.row.object ≡ n = eqb-true _ _ here.passes in
      let row_is : one.x.row ≡ row = ap (λ (keyed : Keyed Row). keyed.row) same ∙ other.gives in
      record {
        numbered = ap (λ (r : Row). r.object) (sym row_is) ∙ numbered;
        found = ap (option_map (λ (keyed : Keyed Row). keyed.row)) one.is ∙ ap Some row_is;
        alone = λ k d' within. ⊎_elim
            (λ (is_here : k ≡ here.at).
            let is_one : get_or rows k d' ≡ one.x = ap (λ at. get_or rows at d') is_here ∙ here.is d' in
            rw is_one (eq-eqb one.x.key key one.gives ∙ sym (eq-eqb one.x.row.object n numbered), λ passes. row_is))
            (λ (differ : k ≢ here.at).
            let differs = apart k here.at d' within here.within differ in
            let not_key : (get_or rows k d').key ≢ key = λ e. differs.1 (e ∙ (sym one.gives ∙ ap (λ (keyed : Keyed Row). keyed.key) (sym (here.is d')))) in
            let not_number : (get_or rows k d').row.object ≢ n =
            λ e. differs.0 (e ∙ (sym numbered ∙ ap (λ (keyed : Keyed Row). keyed.row.object) (sym (here.is d')))) in
            let key_test : ((get_or rows k d').key == key) ≡ false = ne_eqb _ _ not_key in
            (key_test ∙ sym (ne_eqb _ _ not_number), λ passes. absurd (cc (key_test, passes))))
            (cases_eq k here.at);
      }

-- an object that is not there is not missed
pub without_absent : (list : store.Store) (n : ℕ) → properties_of list n ≡ None → store.without n list ≡ list
without_absent list n none = search (rules, filter_all, none_passes)

-- the properties that rows show
module _ (layouts : List (List Field)) (rows : List (Keyed Row)) where
  pub properties_shown : (n : ℕ) → properties_of (store_of layouts rows) n ≡ option_map (shown layouts) (row_of rows n)
  properties_shown n = search (rules, find_over_map)

  pub next_shown : (after : ℕ) → next_object (store_of layouts rows) after ≡ next_number rows after
  next_shown after = search (rules, find_over_map)

  pub added_shown : (key : ℕ) (row : Row) → store_of layouts (inserted number rows key row)
      ≡ filter (λ of. nat_lt of.object row.object) (store_of layouts rows) ++ shown layouts row
      ∷ filter (λ of. nat_lt row.object of.object) (store_of layouts rows)
  added_shown key row = search (rules, map-append, filter_over_map)

  -- where an object is not there nothing changes
  module _ (n : ℕ) (none : key_of number rows n ≡ None) where
    absent : All (λ of. (of.object == n) ≡ false) (store_of layouts rows)
    absent = All-map (λ (of : Properties). (of.object == n) ≡ false) (λ (keyed : Keyed Row). shown layouts keyed.row) rows
        (none_passes (λ (keyed : Keyed Row). keyed.row.object == n) rows
        (unmapped (λ (keyed : Keyed Row). keyed.key) (find (λ keyed. keyed.row.object == n) rows) none))

    pub absent_none : properties_of (store_of layouts rows) n ≡ None
    absent_none = search (rules, properties_shown, unmapped)

    pub absent_unchanged : (change : Properties → Properties) → changed change n (store_of layouts rows) ≡ store_of layouts rows
    absent_unchanged change = search (rules, map_same, absent)

    pub absent_kept : store.without n (store_of layouts rows) ≡ store_of layouts rows
    absent_kept = search (rules, filter_all, absent)

  module _ (key n : ℕ) (row : Row) (is : IsRowOf rows key n row) where
    pub there : properties_of (store_of layouts rows) n ≡ Some (shown layouts row)
    there = properties_shown n ∙ ap (option_map (shown layouts)) is.found

    pub removed_shown : store_of layouts (without rows key) ≡ store.without n (store_of layouts rows)
    removed_shown = search (rules, filter_at, filter_over_map)

    pub changed_shown : (row' : Row) (change : Properties → Properties) → shown layouts row' ≡ change (shown layouts row)
        → store_of layouts (with_row rows key row') ≡ changed change n (store_of layouts rows)
    changed_shown row' change e = search (rules, map_over_map, map_at)
