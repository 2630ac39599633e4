-- Rows that go, with the links to them.
use Rattle.std.proofs.Common.{◌≡◌, ◌≢◌, ◌∙◌, ◌⊎◌, ℕ, ◌<◌, ◌≤◌, ◌^◌, ◌==◌, Bool, true, false, not, List, [], Some, IsSome, length, map, filter}
use Rattle.std.proofs.Common.{refl, sym, ap, subst, arith}
use Rattle.std.specs.List.{All, Any}
use Rattle.std.proofs.lemmas.Bool.Decides.{nat_tests}
use Rattle.std.proofs.lemmas.List.{get_or-map, length-map}
use Rattle.std.proofs.lemmas.List.Elements.{All-filter, All-map}
use Rattle.std.proofs.lemmas.List.Kept.{AllPairs-filter}
use Rattle.std.proofs.lemmas.List.Sums.{length-filter, count_by-le-length}
use Rattle.shared_rows.specs.Table.{ChangesAt, IsPlace, Table, with_place}
use Rattle.shared_rows.proofs.ForCallers.{changes_open, changes_same, changes_twice, changes_with, with_there}
use Rattle.shared_rows.specs.Links.{without_link}
use Rattle.shared_rows.specs.Rows.{Keyed, row_under, rows_at, without}
use Rattle.shared_rows.proofs.LinkedLemmas.{all_from}
use Rattle.shared_rows.proofs.RowsLemmas.{length-without}
use Rattle.connection_list.specs.declared.connection.Connection.{Connection}
use Rattle.connection_list.specs.declared.link.Link.{Link}
use Rattle.connection_list.specs.declared.routes.Routes.{Routes}
use Rattle.connection_list.specs.Rows.{IsSound}
use Rattle.connection_list.specs.Routes.{AreGone, IsLinkedAt, IsPlaceKept, Loses, buckets_of, link_cmp, link_of, place_of, received_of, sent_of}
use Rattle.connection_list.proofs.BucketLemmas.{linked_gone}
use Rattle.connection_list.proofs.KeyedLemmas.{IsApart, filter_all, filter_without, only_under, stands_under, under_key}
use Rattle.connection_list.proofs.RoutesLemmas.{rising_keyed}

-- what holds of each row holds of it with its key
pub all_keyed : (P : Connection → Type 0) (rows : List (Keyed Connection)) → All P (map (λ keyed. keyed.row) rows) → All (λ keyed. P keyed.row) rows
all_keyed P rows all k default within =
    subst P (get_or-map (λ (keyed : Keyed Connection). keyed.row) rows k default default.row within)
    (all k default.row (omega (arith, length-map rows (λ (keyed : Keyed Connection). keyed.row))))

-- a place stays sound where rows go
sound_filter : (keep : Keyed Connection → Bool) (rows : List (Keyed Connection)) (old new : Routes) → IsSound (place_of rows old)
    → new.last_number ≡ old.last_number → IsSound (place_of (filter keep rows) new)
sound_filter keep rows old new sound same = record {
  rising = λ i j default below within.
      let inside : j < length (filter keep rows) = omega (arith, length-map (filter keep rows) (λ (keyed : Keyed Connection). keyed.row)) in
      let blank : Keyed Connection = record { key = 0; row = default } in
      let rise = AllPairs-filter (λ earlier later. earlier.row.number < later.row.number) keep rows (rising_keyed rows old sound) i j blank below inside in
      omega (
        arith,
        ap (λ (row : Connection). row.number) (get_or-map (λ (keyed : Keyed Connection). keyed.row) (filter keep rows) i blank default
            (omega (arith, below, inside))),
        ap (λ (row : Connection). row.number) (get_or-map (λ (keyed : Keyed Connection). keyed.row) (filter keep rows) j blank default inside),
      );
  from_one = All-map (λ row. 1 ≤ row.number) (λ (keyed : Keyed Connection). keyed.row) (filter keep rows)
      (All-filter keep (λ keyed. 1 ≤ keyed.row.number) rows (all_keyed (λ row. 1 ≤ row.number) rows sound.from_one));
  given = All-map (λ row. row.number ≤ new.last_number) (λ (keyed : Keyed Connection). keyed.row) (filter keep rows)
      (All-filter keep (λ keyed. keyed.row.number ≤ new.last_number) rows (all_keyed (λ row. row.number ≤ new.last_number) rows (rw same sound.given)));
  fits = omega arith;
  few =
      omega (
        arith,
        length-map rows (λ (keyed : Keyed Connection). keyed.row),
        length-map (filter keep rows) (λ (keyed : Keyed Connection). keyed.row),
        length-filter keep rows,
        count_by-le-length keep rows,
      );
}

module _ (key : ℕ) (row : Connection) (rows : List (Keyed Connection)) (apart : IsApart rows) (stands : row_under rows key ≡ Some row) where
  linked_without : (link_of : Keyed Connection → Link) → ((keyed : Keyed Connection) → (link_of keyed).key ≡ keyed.key) → (object : ℕ) {old new : List Link}
      → IsLinkedAt link_of rows object old
      → (new ≡ without_link link_cmp old (link_of (record { key = key; row = row })))
      ⊎ ((object ≢ (link_of (record { key = key; row = row })).object) × (new ≡ old)) → IsLinkedAt link_of (without rows key) object new
  linked_without link_of key_is object linked change =
      linked_gone link_of (λ keyed. not (keyed.key == key)) rows (link_of (record { key = key; row = row })) object linked
      (all_from (λ keyed. not (keyed.key == key) ≡ true → link_of keyed ≢ link_of (record { key = key; row = row })) rows (λ keyed there keeps same.
      let same_key : keyed.key ≡ key = sym (key_is keyed) ∙ (ap (λ (l : Link). l.key) same ∙ key_is (record { key = key; row = row })) in
      absurd (grind (arith, nat_tests))))
      (all_from (λ keyed. not (keyed.key == key) ≡ false → link_of keyed ≡ link_of (record { key = key; row = row })) rows (λ keyed there goes.
      let same_key : keyed.key ≡ key = grind (arith, nat_tests) in
      let same_row : keyed.row ≡ row = only_under rows key row apart stands keyed there same_key in
      ap (λ k. link_of (record { key = k; row = keyed.row })) same_key ∙ ap (λ r. link_of (record { key = key; row = r })) same_row))
      change

  pub kept_without : (old new : Routes) → IsPlaceKept rows old → new.last_number ≡ old.last_number
      → Loses (sent_of (record { key = key; row = row })) old.sent new.sent
      → Loses (received_of (record { key = key; row = row })) old.received new.received
      → IsPlaceKept (without rows key) new
  kept_without old new kept same sent received = record {
    sound = sound_filter (λ keyed. not (keyed.key == key)) rows old new kept.sound same;
    apart = AllPairs-filter (λ earlier later. earlier.key ≢ later.key) (λ keyed. not (keyed.key == key)) rows kept.apart;
    short = All-filter (λ keyed. not (keyed.key == key)) (λ keyed. keyed.key < 2 ^ 32) rows kept.short;
    routed = record {
      sent = λ object. linked_without sent_of (λ keyed. refl) object (kept.routed.sent object) (sent object);
      received = λ object. linked_without received_of (λ keyed. refl) object (kept.routed.received object) (received object);
    };
  }

-- the row under a key is gone
module _ (place key : ℕ) (row : Connection) (old new : Table (List (Keyed Connection))) (before after : Routes) (is_place : IsPlace old place)
    (kept : IsPlaceKept (rows_at old place) before) (stands : row_under (rows_at old place) key ≡ Some row) where
  pub short_key : key < 2 ^ 32
  short_key = subst (λ (keyed : Keyed Connection). keyed.key < 2 ^ 32) (stands_under (rows_at old place) key row stands).2
      (kept.short (stands_under (rows_at old place) key row stands).0 (record { key = key; row = row }) (stands_under (rows_at old place) key row stands).1)

  pub one_gone : new ≡ with_place old place (without (rows_at old place) key) → after.last_number ≡ before.last_number
      → Loses (sent_of (record { key = key; row = row })) before.sent after.sent
      → Loses (received_of (record { key = key; row = row })) before.received after.received
      → AreGone (λ keyed. keyed.key == key) place old new before after
  one_gone changed same sent received =
      let now : rows_at new place ≡ without (rows_at old place) key = ap (λ table. rows_at table place) changed
      ∙ with_there [] old place (without (rows_at old place) key) is_place in
      record {
        elsewhere = changes_with [] old new place (without (rows_at old place) key) is_place changed;
        rows = now;
        last_number = same;
        kept = subst (λ rows. IsPlaceKept rows after) (sym now)
            (kept_without key row (rows_at old place) kept.apart stands before after kept same sent received);
      }

-- at both ends its link is gone
pub links_without : (old new : Routes) (keyed : Keyed Connection)
    → Loses (sent_of keyed) old.sent new.sent
    → Loses (received_of keyed) old.received new.received
    → (received : Bool) → Loses (link_of received keyed) (buckets_of received old) (buckets_of received new)
links_without old new keyed sent received true = received
links_without old new keyed sent received false = sent

-- a row that passes a test stands under a key
abbrev pub Stands : (Keyed Connection → Bool) → List (Keyed Connection) → ℕ → Type 0
Stands gone rows key = Any (λ keyed. (keyed.key ≡ key) × (gone keyed ≡ true)) rows

pub some_under : (gone : Keyed Connection → Bool) (rows : List (Keyed Connection)) (key : ℕ) → IsApart rows → Stands gone rows key → IsSome (row_under rows key)
some_under gone rows key apart stands =
    let under : row_under rows stands.1.key ≡ Some stands.1.row = under_key rows stands.1 apart (stands.0, stands.2, stands.3) in
    let moved : row_under rows key ≡ Some stands.1.row = ap (row_under rows) (sym stands.4.0) ∙ under in
    rw moved refl

-- some of the rows that pass a test are gone, and no other
pub record AreGoing (gone : Keyed Connection → Bool) (place : ℕ) (old now : Table (List (Keyed Connection))) (before after : Routes) : Type 0 where
  pub elsewhere : ChangesAt [] place old now
  pub left : filter (λ keyed. not (gone keyed)) (rows_at now place) ≡ filter (λ keyed. not (gone keyed)) (rows_at old place)
  pub last_number : after.last_number ≡ before.last_number
  pub kept : IsPlaceKept (rows_at now place) after

pub none_gone : (gone : Keyed Connection → Bool) (place : ℕ) (table : Table (List (Keyed Connection))) (routes : Routes)
    → IsPlaceKept (rows_at table place) routes → AreGoing gone place table table routes routes
none_gone gone place table routes kept = record { elsewhere = changes_same [] table table place refl; left = refl; last_number = refl; kept = kept }

module _ (gone : Keyed Connection → Bool) (place : ℕ) (old now : Table (List (Keyed Connection))) (before middle : Routes)
    (going : AreGoing gone place old now before middle) where
  pub still_place : IsPlace old place → IsPlace now place
  still_place is_place = changes_open [] old now place going.elsewhere is_place

  pub one_more_gone : (next : Table (List (Keyed Connection))) (after : Routes) (key : ℕ) → Stands gone (rows_at now place) key
      → AreGone (λ other. other.key == key) place now next middle after → AreGoing gone place old next before after
  one_more_gone next after key stands out = record {
    elsewhere = changes_twice [] old now next place going.elsewhere out.elsewhere;
    left =
        ap (filter (λ other. not (gone other))) out.rows
        ∙ (filter_without (λ other. not (gone other)) (rows_at now place) key
        (all_from (λ other. other.key ≡ key → not (gone other) ≡ false) (rows_at now place) (λ other there same.
        let under = under_key (rows_at now place) stands.1 going.kept.apart (stands.0, stands.2, stands.3) in
        let same_row : other.row ≡ stands.1.row = only_under (rows_at now place) stands.1.key stands.1.row going.kept.apart under other there
        (same ∙ sym stands.4.0) in
        ap (λ k. not (gone (record { key = k; row = other.row }))) (same ∙ sym stands.4.0)
        ∙ (ap (λ r. not (gone (record { key = stands.1.key; row = r }))) same_row ∙ ap not stands.4.1)))
        ∙ going.left);
    last_number = out.last_number ∙ going.last_number;
    kept = out.kept;
  }

  pub fewer : (next : Table (List (Keyed Connection))) (after : Routes) (key : ℕ) → IsSome (row_under (rows_at now place) key)
      → AreGone (λ other. other.key == key) place now next middle after → length (rows_at next place) < length (rows_at now place)
  fewer next after key some out = rw out.rows (length-without (rows_at now place) key some)

  pub all_gone : All (λ keyed. gone keyed ≡ false) (rows_at now place) → AreGone gone place old now before middle
  all_gone none = record {
    elsewhere = going.elsewhere;
    rows = sym (filter_all gone (rows_at now place) none) ∙ going.left;
    last_number = going.last_number;
    kept = going.kept;
  }
