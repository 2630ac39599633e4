-- What is read of a place, by its rows.
use Rattle.std.proofs.Common.{◌≡◌, ◌∙◌, ◌==◌, ℕ, List, Some, None, find, sym, ap, arith}
use Rattle.std.proofs.lemmas.Bool.Decides.{nat_tests}
use Rattle.std.specs.Option.{option_map}
use Rattle.shared_rows.specs.Table.{IsPlace, Table}
use Rattle.shared_rows.specs.Rows.{Keyed, key_of, rows_at}
use Rattle.property_store.specs.declared.field.Field.{Field}
use Rattle.property_store.specs.declared.link.Head.{Head}
use Rattle.property_store.specs.declared.row.Row.{Row}
use Rattle.property_store.specs.Inside.{IsKept, limited, row_of, shown, stock_of, store_of}
use Rattle.property_store.specs.Store.{Properties, changed, properties_of}
use Rattle.property_store.specs.Table.{StoresView, store_at, with_store}
use Rattle.property_store.proofs.ListLemmas.{unmapped}
use Rattle.property_store.proofs.PlaceLemmas.{rows_open, shelves_seen, store_there, unchanged_store}
use Rattle.property_store.proofs.StoreLemmas.{absent_none, absent_unchanged, number, properties_shown}

module _ {layouts : List (List Field)} {rows : Table (List (Keyed Row))} {heads : Table Head} (kept : IsKept layouts rows heads) {seen : StoresView}
    (view_is : stock_of layouts rows heads ≡ seen) {place : ℕ} (is_place : IsPlace seen.shelves.table place) where
  pub place_open : IsPlace rows place
  place_open = rows_open (limited rows heads.room) (shelves_seen view_is) place is_place

  pub store_read : store_at seen.shelves place ≡ store_of layouts (rows_at rows place)
  store_read = store_there (limited rows heads.room) (shelves_seen view_is) place is_place

  module _ (n : ℕ) where
    properties_read : properties_of (store_at seen.shelves place) n ≡ option_map (shown layouts) (row_of (rows_at rows place) n)
    properties_read = ap (λ store. properties_of store n) store_read ∙ properties_shown layouts (rows_at rows place) n

    pub row_read : {row : Row} → Some row ≡ row_of (rows_at rows place) n → properties_of (store_at seen.shelves place) n ≡ Some (shown layouts row)
    row_read e = properties_read ∙ ap (option_map (shown layouts)) (sym e)

    pub no_row_read : None ≡ row_of (rows_at rows place) n → properties_of (store_at seen.shelves place) n ≡ None
    no_row_read e = properties_read ∙ ap (option_map (shown layouts)) (sym e)

    pub key_absent : properties_of (store_at seen.shelves place) n ≡ None → key_of number (rows_at rows place) n ≡ None
    key_absent none = grind (
      arith,
      nat_tests,
      unmapped (shown layouts) (row_of (rows_at rows place) n) (sym properties_read ∙ none),
      unmapped (λ (keyed : Keyed Row). keyed.row) (find (λ keyed. keyed.row.object == n) (rows_at rows place)),
    )

    -- no row has the number
    module _ (none : key_of number (rows_at rows place) n ≡ None) where
      pub object_absent : properties_of (store_at seen.shelves place) n ≡ None
      object_absent = ap (λ store. properties_of store n) store_read ∙ absent_none layouts (rows_at rows place) n none

      pub store_unchanged : (change : Properties → Properties) → seen.shelves ≡ with_store seen.shelves place (changed change n (store_at seen.shelves place))
      store_unchanged change = unchanged_store seen.shelves place (changed change n (store_at seen.shelves place))
          (ap (changed change n) store_read ∙ (absent_unchanged layouts (rows_at rows place) n none change ∙ sym store_read))
