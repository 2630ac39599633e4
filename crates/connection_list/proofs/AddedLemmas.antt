-- A connection that is added.
use Rattle.std.proofs.Common.{◌≡◌, ◌≢◌, ◌∙◌, ℕ, ◌+◌, ◌-◌, ◌<◌, ◌≤◌, ◌^◌, ◌&&◌, Bool, true, false, cond, nat_le, List, [], ◌∷◌, ◌++◌, Some, None, length, map}
use Rattle.std.proofs.Common.{get_or, set, refl, sym, ap, subst, arith}
use Rattle.std.specs.List.{All, list_any}
use Rattle.std.proofs.lemmas.Bool.Decides.{nat_tests}
use Rattle.std.proofs.lemmas.List.{length_push, map-append}
use Rattle.std.proofs.lemmas.List.Elements.{All-push, Contains-get_or}
use Rattle.std.proofs.lemmas.List.Quantifiers.{all_pairs_push}
use Rattle.shared_rows.specs.Paired.{paired_tables}
use Rattle.shared_rows.specs.Table.{Table, with_place}
use Rattle.shared_rows.proofs.ForCallers.{with_same}
use Rattle.plain_types.specs.declared.code.Code.TheVariants.{ConnectedAlready, Limit, NumbersUsedUp}
use Rattle.shared_rows.specs.Rows.{Keyed, added, row_under}
use Rattle.shared_rows.specs.Rows as shared
use Rattle.connection_list.specs.declared.connection.Connection.{Connection}
use Rattle.connection_list.specs.declared.connection.NewConnection.{NewConnection}
use Rattle.connection_list.specs.declared.limit.TheConstants.{CONNECTIONS}
use Rattle.connection_list.specs.declared.routes.Routes.{Routes}
use Rattle.connection_list.specs.Ends.{same_ends}
use Rattle.connection_list.specs.Rows.{Rows, connect_refusal, connected, no_rows, numbered}
use Rattle.connection_list.specs.Table.{rows_at, with_rows}
use Rattle.connection_list.specs.Routes.{AreKept, AreSame, IsPlaceKept, IsRouted, place_of}
use Rattle.connection_list.proofs.GoneLemmas.{all_keyed}
use Rattle.connection_list.proofs.KeyedLemmas.{IsApart, under_key}
use Rattle.connection_list.proofs.SeenLemmas.{IsSeen, kept_changed, view_changed}

-- what is not refused has room and a number
record HasPlace (place : Rows) : Type 0 where
  few : length place.rows < CONNECTIONS
  fits : place.last_number + 1 < 2 ^ 32

has_place : (place : Rows) (new : NewConnection) (unique : Bool) → None ≡ connect_refusal place new unique → HasPlace place
has_place place new unique none = by (unique && list_any (same_ends new) place.rows) (nat_le CONNECTIONS (length place.rows))
    (nat_le (2 ^ 32 - 1) place.last_number) refl refl none
  where
    by : (joined full used : Bool) → full ≡ nat_le CONNECTIONS (length place.rows) → used ≡ nat_le (2 ^ 32 - 1) place.last_number
        → None ≡ cond joined (Some ConnectedAlready) (cond full (Some Limit) (cond used (Some NumbersUsedUp) None)) → HasPlace place
    by true full used full_is used_is none = absurd (cc)
    by false true used full_is used_is none = absurd (cc)
    by false false true full_is used_is none = absurd (cc)
    by false false false full_is used_is none = record { few = grind (arith, nat_tests); fits = grind (arith, nat_tests) }

-- the same connections are found
pub same_kept : (rows : List (Keyed Connection)) (old new : Routes) → AreSame old new → IsPlaceKept rows old → IsPlaceKept rows new
same_kept rows old new same kept = record {
  sound = rw same.last_number kept.sound;
  apart = kept.apart;
  short = kept.short;
  routed = same.routed rows kept.routed;
}

-- no row stands under a key that is vacant
vacant_apart : (rows : List (Keyed Connection)) (key : ℕ) → IsApart rows → row_under rows key ≡ None → All (λ keyed. keyed.key ≢ key) rows
vacant_apart rows key apart vacant k default within same =
    let there : row_under rows (get_or rows k default).key ≡ Some (get_or rows k default).row =
    under_key rows (get_or rows k default) apart (Contains-get_or rows k default within) in
    let moved : row_under rows key ≡ Some (get_or rows k default).row = ap (row_under rows) (sym same) ∙ there in
    absurd (cc (moved, vacant))

module _ (rows : List (Keyed Connection)) (old new : Routes) (key : ℕ) (row : Connection) (kept : IsPlaceKept rows old) (has : HasPlace (place_of rows old))
    (number : row.number ≡ old.last_number + 1) where
  above_all : All (λ keyed. keyed.row.number < row.number) rows
  above_all k default within = omega (arith, all_keyed (λ r. r.number ≤ old.last_number) rows kept.sound.given k default within)

  mapped : map (λ keyed. keyed.row) (added rows key row) ≡ map (λ keyed. keyed.row) rows ++ row ∷ []
  mapped = map-append (λ (keyed : Keyed Connection). keyed.row) rows (record { key = key; row = row } ∷ [])

  added_kept : row_under rows key ≡ None → key < 2 ^ 32 → new.last_number ≡ row.number → IsRouted (added rows key row) new
      → IsPlaceKept (added rows key row) new
  added_kept vacant short last routed =
      let list : List Connection = map (λ keyed. keyed.row) rows in
      let given : All (λ r. r.number ≤ new.last_number) list = λ k d within. omega (arith, kept.sound.given k d within) in
      record {
        sound = rw mapped (record {
          rising = all_pairs_push (λ earlier later. earlier.number < later.number) list row kept.sound.rising
              (λ k d within. omega (arith, kept.sound.given k d within));
          from_one = All-push (λ r. 1 ≤ r.number) list row kept.sound.from_one (omega arith);
          given = All-push (λ r. r.number ≤ new.last_number) list row given (omega arith);
          fits = omega (arith, has.fits);
          few = omega (arith, has.few, length_push list row);
        });
        apart = all_pairs_push (λ earlier later. earlier.key ≢ later.key) rows (record { key = key; row = row }) kept.apart
            (λ k d within. vacant_apart rows key kept.apart vacant k d within);
        short = All-push (λ keyed. keyed.key < 2 ^ 32) rows (record { key = key; row = row }) kept.short short;
        routed = routed;
      }

module _ {rows : Table (List (Keyed Connection))} {routes : Table Routes} {table : Table Rows} {place : ℕ} {at reserved : Routes}
    (seen : IsSeen rows routes table place at) (same : AreSame at reserved) where
  -- room was made
  reserved_at : IsPlaceKept (shared.rows_at rows place) reserved
  reserved_at = same_kept (shared.rows_at rows place) at reserved same seen.kept

  shows : place_of (shared.rows_at rows place) reserved ≡ rows_at table place
  shows = ap (λ n. record { rows = map (λ keyed. keyed.row) (shared.rows_at rows place); last_number = n }) same.last_number ∙ sym seen.shows

  pub reserved_kept : AreKept rows.places (set routes.places place reserved)
  reserved_kept = subst (λ (t : Table (List (Keyed Connection))). AreKept t.places (set routes.places place reserved)) (with_same [] rows place)
      (kept_changed seen reserved_at)

  pub reserved_view : paired_tables place_of rows (with_place routes place reserved) ≡ table
  reserved_view =
      ap (λ (t : Table (List (Keyed Connection))). paired_tables place_of t (with_place routes place reserved)) (sym (with_same [] rows place))
      ∙ (view_changed seen reserved_at ∙ (ap (with_rows table place) shows ∙ with_same no_rows table place))

  module _ (new : NewConnection) (unique : Bool) (none : None ≡ connect_refusal (rows_at table place) new unique) where
    has : HasPlace (place_of (shared.rows_at rows place) reserved)
    has = subst HasPlace (sym shows) (has_place (rows_at table place) new unique none)

    pub number_fits : reserved.last_number + 1 < 2 ^ 32
    number_fits = has.fits

    module _ {row : Connection} (row_is : row ≡ numbered (reserved.last_number + 1) new) where
      number_is : row.number ≡ reserved.last_number + 1
      number_is = ap (λ (r : Connection). r.number) row_is

      pub number_next : row.number ≡ (rows_at table place).last_number + 1
      number_next = number_is ∙ ap (λ (p : Rows). p.last_number + 1) shows

      pub number_above : All (λ keyed. keyed.row.number < row.number) (shared.rows_at rows place)
      number_above = above_all (shared.rows_at rows place) reserved reserved 0 row reserved_at has number_is

      module _ {next : Table (List (Keyed Connection))} {after : Routes} (key : ℕ)
          (changed : next ≡ with_place rows place (added (shared.rows_at rows place) key row)) (vacant : row_under (shared.rows_at rows place) key ≡ None)
          (short : key < 2 ^ 32)
          (last : after.last_number ≡ row.number) (routed : (list : List (Keyed Connection)) → IsRouted list reserved
          → IsRouted (added list key row) after) where
        place_kept : IsPlaceKept (added (shared.rows_at rows place) key row) after
        place_kept = added_kept (shared.rows_at rows place) reserved after key row reserved_at has number_is vacant short last
            (routed (shared.rows_at rows place) reserved_at.routed)

        pub connected_kept : AreKept next.places (set routes.places place after)
        connected_kept = subst (λ (t : Table (List (Keyed Connection))). AreKept t.places (set routes.places place after)) (sym changed)
            (kept_changed seen place_kept)

        pub connected_view : paired_tables place_of next (with_place routes place after) ≡ with_rows table place (connected (rows_at table place) new)
        connected_view =
            ap (λ (t : Table (List (Keyed Connection))). paired_tables place_of t (with_place routes place after)) changed
            ∙ (view_changed seen place_kept
            ∙ ap (with_rows table place) (ap (λ list. record { rows = list; last_number = after.last_number })
            (mapped (shared.rows_at rows place) reserved reserved key row reserved_at has number_is)
            ∙ (ap (λ n. record { rows = map (λ keyed. keyed.row) (shared.rows_at rows place) ++ row ∷ []; last_number = n }) (last ∙ number_is)
            ∙ (ap (λ r. record { rows = map (λ keyed. keyed.row) (shared.rows_at rows place) ++ r ∷ []; last_number = reserved.last_number + 1 }) row_is
            ∙ ap (λ p. connected p new) shows))))
