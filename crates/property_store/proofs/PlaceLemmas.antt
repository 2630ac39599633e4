-- The stores of places in rows.
use Rattle.std.proofs.Common.{◌≡◌, ◌∙◌, ℕ, ◌<◌, ◌==◌, nat_lt, cond, List, [], ◌∷◌, Some, filter, find, length, get_or, sym, ap}
use Rattle.std.proofs.Common.{subst, arith, rules}
use Rattle.std.proofs.lemmas.Grind.{common_steps}
use Rattle.std.proofs.lemmas.Bool.Decides.{nat_tests}
use Rattle.std.specs.List.{All, AllPairs}
use Rattle.std.proofs.lemmas.List.{get_or-map, length-map, map-set}
use Rattle.std.proofs.lemmas.List.Elements.{All-append, All-filter, All-map, All-set}
use Rattle.shared_rows.specs.Table.{IsPlace, Table, with_place}
use Rattle.shared_rows.proofs.ForCallers.{with_same}
use Rattle.shared_rows.specs.Rows.{Keyed, inserted, key_of, row_under, rows_at, with_row, without}
use Rattle.shared_rows.specs.Rows as table
use Rattle.property_store.specs.declared.field.Field.{Field}
use Rattle.property_store.specs.declared.row.Row.{Row}
use Rattle.property_store.specs.Inside.{AreKept, AreRows, row_of, shelves_of, shown, store_of}
use Rattle.property_store.specs.Store.{AreSound, Properties, Store, added, changed, fields_in, fresh, properties_of}
use Rattle.property_store.specs.Store as store
use Rattle.property_store.specs.Table.{StoreTable, StoresView, store_at, with_store}
use Rattle.property_store.proofs.ListLemmas.{found, map_same, mapped}
use Rattle.property_store.proofs.KindLemmas.{fresh_sound}
use Rattle.property_store.proofs.StoreLemmas.{IsRowOf, added_shown, changed_shown, number, row_stands, there}

module _ {layouts : List (List Field)} (rows : Table (List (Keyed Row))) {seen : StoreTable} (view_is : shelves_of layouts rows ≡ seen) (place : ℕ) where
  pub rows_open : IsPlace seen.table place → IsPlace rows place
  rows_open is_place = search (rules, length-map)

  pub store_there : IsPlace seen.table place → store_at seen place ≡ store_of layouts (rows_at rows place)
  store_there is_place = grind (arith, common_steps)

  pub stands_there : IsPlace seen.table place → (position : ℕ) → position < length (store_at seen place) → position < length (rows_at rows place)
  stands_there is_place position stands = grind (arith, common_steps)

  pub at_there : IsPlace seen.table place → (position : ℕ) → position < length (store_at seen place) → (keyed : Keyed Row)
      → get_or (rows_at rows place) position keyed ≡ keyed → (default : Properties) → get_or (store_at seen place) position default ≡ shown layouts keyed.row
  at_there is_place position stands keyed is default = grind (arith, common_steps)

  pub after : (new : Table (List (Keyed Row))) (list : List (Keyed Row)) (store : Store) → new ≡ with_place rows place list → store_of layouts list ≡ store
      → shelves_of layouts new ≡ with_store seen place store
  after new list store e is = search (rules, map-set)

pub unchanged_store : (seen : StoreTable) (place : ℕ) (store : Store) → store ≡ store_at seen place → seen ≡ with_store seen place store
unchanged_store seen place store is = search (rules, with_same)

-- what holds of all rows and of one that comes
pub inserted_all : (P : Row → Type 0) (rows : List (Keyed Row)) → All (λ keyed. P keyed.row) rows → (key : ℕ) (row : Row) → P row
    → All (λ keyed. P keyed.row) (inserted number rows key row)
inserted_all P rows all key row is = grind (
  arith,
  nat_tests,
  All-append (λ (keyed : Keyed Row). P keyed.row) (filter (λ keyed. nat_lt keyed.row.object row.object) rows)
      (record { key = key; row = row } ∷ filter (λ keyed. nat_lt row.object keyed.row.object) rows)
      (All-filter (λ (keyed : Keyed Row). nat_lt keyed.row.object row.object) (λ keyed. P keyed.row) rows all),
  All-filter (λ (keyed : Keyed Row). nat_lt keyed.row.object row.object) (λ keyed. P keyed.row) rows all,
  All-append (λ (keyed : Keyed Row). P keyed.row) (record { key = key; row = row } ∷ []) (filter (λ keyed. nat_lt row.object keyed.row.object) rows),
  All-filter (λ (keyed : Keyed Row). nat_lt row.object keyed.row.object) (λ keyed. P keyed.row) rows all,
)

module _ (layouts : List (List Field)) where
  module _ (rows : List (Keyed Row)) (sound : AreRows layouts rows) where
    pub with_row_sound : (key : ℕ) (row : Row) → AreSound (shown layouts row) → AreRows layouts (with_row rows key row)
    with_row_sound key row is = grind (
      arith,
      nat_tests,
      All-map (λ (keyed : Keyed Row). AreSound (shown layouts keyed.row))
          (λ (keyed : Keyed Row). cond (keyed.key == key) (record { key = key; row = row }) keyed) rows,
    )

    pub without_sound : (key : ℕ) → AreRows layouts (without rows key)
    without_sound key = search (rules, All-filter)

    pub inserted_sound : (key : ℕ) (row : Row) → AreSound (shown layouts row) → AreRows layouts (inserted number rows key row)
    inserted_sound key row is = inserted_all (λ row. AreSound (shown layouts row)) rows sound key row is

  pub kept_with : (rows : Table (List (Keyed Row))) → AreKept layouts rows → (place : ℕ) (new : Table (List (Keyed Row))) (list : List (Keyed Row))
      → new ≡ with_place rows place list → AreRows layouts list → AreKept layouts new
  kept_with rows kept place new list e sound = search (rules, All-set)

-- a row that stands under a key is one of the rows
pub under_all : (P : Row → Type 0) (rows : List (Keyed Row)) → All (λ keyed. P keyed.row) rows → (key : ℕ) (row : Row) → row_under rows key ≡ Some row → P row
under_all P rows all key row under =
    let there = mapped (λ (keyed : Keyed Row). keyed.row) (find (λ keyed. keyed.key == key) rows) row under in
    let is = found (λ (keyed : Keyed Row). keyed.key == key) rows there.x there.is in
    subst P there.gives (subst (λ (keyed : Keyed Row). P keyed.row) (is.is there.x) (all is.at there.x is.within))

pub under_sound : (layouts : List (List Field)) (rows : List (Keyed Row)) → AreRows layouts rows → (key : ℕ) (row : Row) → row_under rows key ≡ Some row
    → AreSound (shown layouts row)
under_sound layouts rows sound = under_all (λ row. AreSound (shown layouts row)) rows sound

pub store_sound : (layouts : List (List Field)) (rows : List (Keyed Row)) → table.IsSound number rows → AreRows layouts rows
    → store.IsSound (store_of layouts rows)
store_sound layouts rows sound each = record { rising = rising rows sound; each = All-map AreSound (λ (keyed : Keyed Row). shown layouts keyed.row) rows each }
  where
    rising : (rows : List (Keyed Row)) → table.IsSound number rows → AllPairs (λ earlier later. earlier.object < later.object) (store_of layouts rows)
    rising [] sound i j d lt within = absurd (omega (arith, within))
    rising (first ∷ rest) sound i j d lt within =
        let inside : j < length (first ∷ rest) = omega (arith, within, length-map (first ∷ rest) (λ (keyed : Keyed Row). shown layouts keyed.row)) in
        let at_i : (get_or (store_of layouts (first ∷ rest)) i d).object ≡ (get_or (first ∷ rest) i first).row.object =
        ap (λ (of : Properties). of.object) (get_or-map (λ (keyed : Keyed Row). shown layouts keyed.row) (first ∷ rest) i first d
        (omega (arith, lt, inside))) in
        let at_j : (get_or (store_of layouts (first ∷ rest)) j d).object ≡ (get_or (first ∷ rest) j first).row.object =
        ap (λ (of : Properties). of.object) (get_or-map (λ (keyed : Keyed Row). shown layouts keyed.row) (first ∷ rest) j first d inside) in
        let rise = sound.rising i j first lt inside in
        omega (arith, rise, at_i, at_j)

-- the row of a number is found under its key
pub record IsFoundAt (here : List (Keyed Row)) (key n : ℕ) (row : Row) : Type 0 where
  pub sound : table.IsSound number here
  pub found : key_of number here n ≡ Some key
  pub under : row_under here key ≡ Some row

-- a call has changed the row of a number where it stands
pub record IsChanged (layouts : List (List Field)) (rows new : Table (List (Keyed Row))) (seen : StoreTable) (place key n : ℕ) (old row : Row) : Type 0 where
  pub kept : AreKept layouts rows
  pub view_is : shelves_of layouts rows ≡ seen
  pub is_place : IsPlace seen.table place
  pub at : IsFoundAt (rows_at rows place) key n old
  pub new_is : new ≡ with_place rows place (with_row (rows_at rows place) key row)

module _ {layouts : List (List Field)} {rows new : Table (List (Keyed Row))} {seen : StoreTable} {place key n : ℕ} {old row : Row}
    (it : IsChanged layouts rows new seen place key n old row) where
  each_sound : AreRows layouts (rows_at rows place)
  each_sound = it.kept place [] (rows_open rows it.view_is place it.is_place)

  pub is_row : IsRowOf (rows_at rows place) key n old
  is_row = row_stands (rows_at rows place) it.at.sound key n old it.at.found it.at.under

  pub old_there : properties_of (store_at seen place) n ≡ Some (shown layouts old)
  old_there = ap (λ s. properties_of s n) (store_there rows it.view_is place it.is_place) ∙ there layouts (rows_at rows place) key n old is_row

  pub old_sound : AreSound (shown layouts old)
  old_sound = under_sound layouts (rows_at rows place) each_sound key old it.at.under

  pub kept_under : AreSound (shown layouts row) → AreKept layouts new
  kept_under sound = kept_with layouts rows it.kept place new (with_row (rows_at rows place) key row) it.new_is
      (with_row_sound layouts (rows_at rows place) each_sound key row sound)

  pub view_under : (change : Properties → Properties) → shown layouts row ≡ change (shown layouts old)
      → shelves_of layouts new ≡ with_store seen place (changed change n (store_at seen place))
  view_under change e =
      after rows it.view_is place new (with_row (rows_at rows place) key row) (changed change n (store_at seen place)) it.new_is
      (changed_shown layouts (rows_at rows place) key n old is_row row change e ∙ ap (changed change n) (sym (store_there rows it.view_is place it.is_place)))

  pub view_same : shown layouts row ≡ shown layouts old → shelves_of layouts new ≡ seen
  view_same e = grind (
    arith,
    nat_tests,
    view_under (λ of. of) e,
    unchanged_store seen place (changed (λ of. of) n (store_at seen place)),
    map_same (λ (of : Properties). cond (of.object == n) of of) (store_at seen place),
  )

-- a row that is found is one of the rows
pub found_sound : (layouts : List (List Field)) (rows : List (Keyed Row)) → AreRows layouts rows → (n : ℕ) (row : Row) → Some row ≡ row_of rows n
    → AreSound (shown layouts row)
found_sound layouts rows sound n row e =
    let there = mapped (λ (keyed : Keyed Row). keyed.row) (find (λ keyed. keyed.row.object == n) rows) row (sym e) in
    let is = found (λ (keyed : Keyed Row). keyed.row.object == n) rows there.x there.is in
    subst (λ (r : Row). AreSound (shown layouts r)) there.gives
    (subst (λ (keyed : Keyed Row). AreSound (shown layouts keyed.row)) (is.is there.x) (sound is.at there.x is.within))

-- an object that comes
module _ {layouts : List (List Field)} (rows : Table (List (Keyed Row))) {seen : StoreTable} (view_is : shelves_of layouts rows ≡ seen) (place : ℕ)
    (is_place : IsPlace seen.table place) (n : ℕ) where
  module _ (kept : AreKept layouts rows) (class key : ℕ) (row : Row) (is : shown layouts row ≡ fresh n (fields_in layouts class))
      (new : Table (List (Keyed Row))) (e : new ≡ with_place rows place (inserted number (rows_at rows place) key row)) where
    pub new_kept : AreKept layouts new
    new_kept =
        kept_with layouts rows kept place new (inserted number (rows_at rows place) key row) e
        (inserted_sound layouts (rows_at rows place) (kept place [] (rows_open rows view_is place is_place)) key row
        (subst AreSound (sym is) (fresh_sound n (fields_in layouts class))))

    pub new_added : shelves_of layouts new ≡ with_store seen place (added (store_at seen place) n (fields_in seen.layouts class))
    new_added = search (rules, store_there, after, added_shown)

pub shelves_seen : {inside seen : StoresView} → inside ≡ seen → inside.shelves ≡ seen.shelves
shelves_seen view_is = ap (λ (s : StoresView). s.shelves) view_is

pub marks_seen : {inside seen : StoresView} → inside ≡ seen → inside.marks ≡ seen.marks
marks_seen view_is = ap (λ (s : StoresView). s.marks) view_is

pub stock_same : {a b : StoresView} → a.shelves ≡ b.shelves → a.marks ≡ b.marks → a ≡ b
stock_same shelves marks = λ i. record { shelves = shelves i; marks = marks i }
