-- What contracts see of rows and routes.
use Rattle.std.proofs.Common.{◌≡◌, ◌≢◌, ◌∙◌, ℕ, ◌-◌, ◌<◌, ◌≤◌, ◌^◌, ◌==◌, Bool, not, List, [], ◌∷◌, ◌++◌, Option, Some, None, length, map, filter, get_or, set}
use Rattle.std.proofs.Common.{refl, sym, ap, subst, arith, ⊎_elim}
use Rattle.std.specs.List.{All, Contains, count_by}
use Rattle.std.specs.Option.{option_map}
use Rattle.std.proofs.lemmas.Bool.{cases_eq, cases_lt, eq-eqb}
use Rattle.std.proofs.lemmas.Bool.Decides.{nat_tests}
use Rattle.std.proofs.lemmas.List.{get_or_default, length-map, length-set, length_push}
use Rattle.std.proofs.lemmas.List.Sums.{length-filter, count_by-le-length}
use Rattle.shared_rows.specs.Paired.{paired_tables}
use Rattle.shared_rows.specs.Table.{IsPlace, Table, with_place, opened}
use Rattle.shared_rows.proofs.ForCallers.{changes_open, each_opened, each_with, pairs_at, pairs_length, pairs_opened, pairs_with}
use Rattle.shared_rows.proofs.LinkedLemmas.{all_from}
use Rattle.shared_rows.specs.Rows.{Keyed, row_under}
use Rattle.shared_rows.specs.Rows as shared
use Rattle.connection_list.specs.declared.connection.Connection.{Connection}
use Rattle.connection_list.specs.declared.routes.Routes.{Routes}
use Rattle.connection_list.specs.Rows.{IsSound, Rows, has_number, no_rows, without}
use Rattle.connection_list.specs.Table.{rows_at, with_rows}
use Rattle.connection_list.specs.Routes.{AreGone, AreKept, IsPlaceKept, IsRouted, no_routes, place_of}
use Rattle.connection_list.proofs.KeyedLemmas.{filter_alike, filter_map, only_under, stands_under}
use Rattle.connection_list.proofs.RoutesLemmas.{rising_keyed}
use Rattle.connection_list.proofs.WithoutLemmas.{length-without}

-- a place, seen from its rows and routes
pub record IsSeen (rows : Table (List (Keyed Connection))) (routes : Table Routes) (table : Table Rows) (place : ℕ) (at : Routes) : Type 0 where
  pub tables : AreKept rows.places routes.places
  pub view : paired_tables place_of rows routes ≡ table
  pub rows_place : IsPlace rows place
  pub routes_place : IsPlace routes place
  pub is : (default : Routes) → at ≡ get_or routes.places place default
  pub kept : IsPlaceKept (shared.rows_at rows place) at
  pub shows : rows_at table place ≡ place_of (shared.rows_at rows place) at
  pub sound : IsSound (rows_at table place)

places_there : (rows : Table (List (Keyed Connection))) (routes : Table Routes) (table : Table Rows) (place : ℕ) → AreKept rows.places routes.places
    → paired_tables place_of rows routes ≡ table → IsPlace table place → IsPlace rows place × IsPlace routes place
places_there rows routes table place kept view_is is_place =
    let within : IsPlace rows place = omega (arith, pairs_length place_of rows routes kept.same view_is) in
    (within, omega (arith, kept.same))

module _ {rows : Table (List (Keyed Connection))} {routes : Table Routes} {table : Table Rows} {place : ℕ} (kept : AreKept rows.places routes.places)
    (view_is : paired_tables place_of rows routes ≡ table) (is_place : IsPlace table place) where
  pub seen : {at : Routes} → ((default : Routes) → at ≡ get_or routes.places place default) → IsSeen rows routes table place at
  seen {at} is =
      let there = places_there rows routes table place kept view_is is_place in
      let place_kept = subst (IsPlaceKept (shared.rows_at rows place)) (sym (is at)) (kept.each place at there.0) in
      let shows : rows_at table place ≡ place_of (shared.rows_at rows place) at =
      pairs_at place_of rows routes kept.same view_is place [] at no_rows there.0 ∙ ap (place_of (shared.rows_at rows place)) (sym (is at)) in
      record {
        tables = kept;
        view = view_is;
        rows_place = there.0;
        routes_place = there.1;
        is = is;
        kept = place_kept;
        shows = shows;
        sound = rw shows place_kept.sound;
      }

  -- also where nothing was read there
  pub seen_anyhow : IsSeen rows routes table place (get_or routes.places place no_routes)
  seen_anyhow = seen (λ default. get_or_default routes.places place no_routes default (places_there rows routes table place kept view_is is_place).1)

module _ {rows : Table (List (Keyed Connection))} {routes : Table Routes} {table : Table Rows} {place : ℕ} {at : Routes}
    (seen : IsSeen rows routes table place at) where
  -- as many rows are seen as stand there
  pub shown_count : length (rows_at table place).rows ≡ length (shared.rows_at rows place)
  shown_count = ap (λ (p : Rows). length p.rows) seen.shows ∙ length-map (shared.rows_at rows place) (λ keyed. keyed.row)

  -- both changed at the place
  module _ {list : List (Keyed Connection)} {new : Routes} (place_kept : IsPlaceKept list new) where
    pub kept_changed : AreKept (with_place rows place list).places (with_place routes place new).places
    kept_changed = record {
      same = omega (arith, seen.tables.same, length-set rows.places place list, length-set routes.places place new);
      each = λ other default within. each_with IsPlaceKept rows.places routes.places [] seen.tables.same seen.tables.each place list new seen.rows_place
          place_kept other default (omega (arith, length-set rows.places place list));
    }

    pub view_changed : paired_tables place_of (with_place rows place list) (with_place routes place new) ≡ with_rows table place (place_of list new)
    view_changed = pairs_with place_of rows routes seen.tables.same seen.view place list new

  -- rows are gone
  module _ {new : Table (List (Keyed Connection))} {after : Routes} {gone : Keyed Connection → Bool} (out : AreGone gone place rows new at after) where
    pub gone_kept : AreKept new.places (set routes.places place after)
    gone_kept = subst (λ (t : Table (List (Keyed Connection))). AreKept t.places (set routes.places place after)) (sym out.elsewhere) (kept_changed out.kept)

    pub gone_place : IsPlace new place
    gone_place = changes_open [] rows new place out.elsewhere seen.rows_place

    module _ (test : Connection → Bool) (alike : All (λ keyed. gone keyed ≡ test keyed.row) (shared.rows_at rows place)) where
      gone_rows : map (λ keyed. keyed.row) (shared.rows_at new place) ≡ filter (λ row. not (test row)) (rows_at table place).rows
      gone_rows =
          ap (map (λ (keyed : Keyed Connection). keyed.row)) (out.rows ∙ filter_alike gone (λ keyed. test keyed.row) (shared.rows_at rows place) alike)
          ∙ (sym (filter_map (λ row. not (test row)) (shared.rows_at rows place)) ∙ ap (λ (p : Rows). filter (λ row. not (test row)) p.rows) (sym seen.shows))

      pub gone_view : paired_tables place_of new (with_place routes place after) ≡ with_rows table place (without test (rows_at table place))
      gone_view =
          ap (λ (t : Table (List (Keyed Connection))). paired_tables place_of t (with_place routes place after)) out.elsewhere
          ∙ (view_changed out.kept
          ∙ (ap (λ list. with_rows table place (record { rows = list; last_number = after.last_number })) gone_rows
          ∙ ap (λ n. with_rows table place (record { rows = filter (λ row. not (test row)) (rows_at table place).rows; last_number = n }))
          (out.last_number ∙ ap (λ (p : Rows). p.last_number) (sym seen.shows))))

      -- as many went as passed
      pub gone_count : {before left : ℕ} → before ≡ length (shared.rows_at rows place) → left ≡ length (shared.rows_at new place)
          → (left ≤ before) × (before < 2 ^ 32) × (before - left ≡ count_by test (rows_at table place).rows)
      gone_count {before} {left} before_is left_is =
          let first : length (rows_at table place).rows ≡ before = shown_count ∙ sym before_is in
          let last : left ≡ length (filter (λ row. not (test row)) (rows_at table place).rows) = left_is
          ∙ (sym (length-map (shared.rows_at new place) (λ keyed. keyed.row)) ∙ ap length gone_rows) in (
            omega (
              arith,
              length-filter (λ row. not (test row)) (rows_at table place).rows,
              count_by-le-length (λ row. not (test row)) (rows_at table place).rows,
            ),
            omega (arith, seen.kept.sound.few, length-map (shared.rows_at rows place) (λ (keyed : Keyed Connection). keyed.row)),
            omega (arith, length-without test (rows_at table place).rows),
          )

-- rows of one number are one
only_numbered : (rows : List (Keyed Connection)) (routes : Routes) → IsSound (place_of rows routes) → (x y : Keyed Connection) → Contains rows x
    → Contains rows y → x.row.number ≡ y.row.number → x ≡ y
only_numbered rows routes sound x y there also same =
    let first : get_or rows there.0 x ≡ x = there.2 in
    let second : get_or rows also.0 x ≡ y = get_or_default rows also.0 x y also.1 ∙ also.2 in
    let number_of = λ (k : Keyed Connection). k.row.number in
    ⊎_elim
    (λ less. absurd (omega (arith, rising_keyed rows routes sound there.0 also.0 x less also.1, ap number_of first, ap number_of second)))
    (λ more. ⊎_elim
    (λ here. sym first ∙ (ap (λ i. get_or rows i x) (sym here) ∙ second))
    (λ differ. absurd (omega (
      arith,
      rising_keyed rows routes sound also.0 there.0 x (omega (arith, more, differ)) there.1,
      ap number_of first,
      ap number_of second,
    )))
    (cases_eq also.0 there.0))
    (cases_lt there.0 also.0)

-- the row under the key of a number is the one with that number
pub numbered_alike : (rows : List (Keyed Connection)) (routes : Routes) (number key : ℕ) → IsPlaceKept rows routes
    → option_map (λ row. row.number) (row_under rows key) ≡ Some number → All (λ keyed. (keyed.key == key) ≡ has_number number keyed.row) rows
numbered_alike rows routes number key kept stands = by (row_under rows key) refl stands
  where
    by : (o : Option Connection) → o ≡ row_under rows key → option_map (λ (row : Connection). row.number) o ≡ Some number
        → All (λ keyed. (keyed.key == key) ≡ has_number number keyed.row) rows
    by None is stands = absurd (cc)
    by (Some row) is stands =
        let numbered : row.number ≡ number = cc in
        all_from (λ keyed. (keyed.key == key) ≡ has_number number keyed.row) rows (λ keyed there. ⊎_elim
        (λ same.
        let same_row : keyed.row ≡ row = only_under rows key row kept.apart (sym is) keyed there same in
        let same_number : keyed.row.number ≡ number = ap (λ (r : Connection). r.number) same_row ∙ numbered in
        eq-eqb keyed.key key same ∙ sym (eq-eqb keyed.row.number number same_number))
        (λ differ.
        let other : keyed.row.number ≢ number = λ same_number. differ
        (ap (λ (k : Keyed Connection). k.key) (only_numbered rows routes kept.sound keyed (record { key = key; row = row }) there
        (stands_under rows key row (sym is)) (same_number ∙ sym numbered))) in
        grind (arith, nat_tests))
        (cases_eq keyed.key key))

-- a place where nothing was ever connected
pub empty_kept : (routes : Routes) → routes.last_number ≡ 0 → IsRouted [] routes → IsPlaceKept [] routes
empty_kept routes none routed = record {
  sound = record {
    rising = λ i j d below within. absurd (omega arith);
    from_one = λ k d within. absurd (omega arith);
    given = λ k d within. absurd (omega arith);
    fits = omega arith;
    few = omega arith;
  };
  apart = λ i j d below within. absurd (omega arith);
  short = λ k d within. absurd (omega arith);
  routed = routed;
}

pub empty_shows : (routes : Routes) → routes.last_number ≡ 0 → place_of [] routes ≡ no_rows
empty_shows routes none = ap (λ n. record { rows = []; last_number = n }) none

-- one more place
module _ (rows : Table (List (Keyed Connection))) (routes : Table Routes) {table : Table Rows} (kept : AreKept rows.places routes.places)
    (view_is : paired_tables place_of rows routes ≡ table) {at : Routes} (none : at.last_number ≡ 0) (routed : IsRouted [] at) where
  pub kept_opened : AreKept (rows.places ++ [] ∷ []) (routes.places ++ at ∷ [])
  kept_opened = record {
    same = omega (arith, kept.same, length_push rows.places [], length_push routes.places at);
    each = λ place default within. each_opened IsPlaceKept rows.places routes.places [] kept.same kept.each [] at (empty_kept at none routed) place default
        (omega (arith, length_push rows.places []));
  }

  pub view_opened : paired_tables place_of (opened rows []) (opened routes at) ≡ opened table no_rows
  view_opened = pairs_opened place_of rows routes kept.same view_is [] at ∙ ap (opened table) (empty_shows at none)

  pub opened_count : length routes.places ≡ length table.places
  opened_count = sym (pairs_length place_of rows routes kept.same view_is ∙ kept.same)
