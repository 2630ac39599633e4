-- The heads of places, and the rows that they lead over.
use Rattle.std.proofs.lemmas.Option.{slice_get_within}
use Rattle.std.proofs.Common.{◌≡◌, ◌≢◌, ◌∙◌, ℕ, zero, suc, ◌==◌, ◌||◌, Bool, true, false, cond, List, [], ◌∷◌, Option, Some, None, length, get_or, refl, sym}
use Rattle.std.proofs.Common.{ap, arith, ⊎_elim, rules}
use Rattle.std.proofs.lemmas.Grind.{common_steps}
use Rattle.std.proofs.lemmas.Bool.Decides.{nat_tests}
use Rattle.std.specs.List.{All}
use Rattle.std.proofs.lemmas.Bool.{cases_Bool, or_left, or_right}
use Rattle.std.proofs.lemmas.List.{set-get_or}
use Rattle.std.proofs.lemmas.List.Elements.{All-map}
use Rattle.shared_rows.specs.Paired.{paired}
use Rattle.shared_rows.specs.Table.{IsPlace, Table, with_place}
use Rattle.shared_rows.proofs.ForCallers.{paired_set, with_same}
use Rattle.shared_rows.specs.Rows.{Keyed, key_of, row_under, rows_at, with_row}
use Rattle.shared_rows.specs.Rows as table
use Rattle.property_store.specs.declared.field.Field.{Field}
use Rattle.property_store.specs.declared.link.Head.{Head}
use Rattle.property_store.specs.declared.link.Head.TheVariants as head
use Rattle.property_store.specs.declared.property.Property.{Property}
use Rattle.property_store.specs.declared.row.Row.{Row}
use Rattle.property_store.specs.Property.{is_property}
use Rattle.property_store.specs.Chain.{IsMarking, first_of, is_all, is_linked, link_to}
use Rattle.property_store.specs.Inside.{AreChained, AreKept, IsKept, head_at, limited, link_at, marks_of, properties_in, stock_of}
use Rattle.property_store.specs.Marks.{AreMarked, HasMarks, Marks, is_marked, marks_at, no_marks}
use Rattle.property_store.specs.Store.{fields_in}
use Rattle.property_store.specs.Storing.{AreAsMany}
use Rattle.property_store.specs.Table.{StoresView}
use Rattle.property_store.proofs.ChainLemmas.{linked_more, linked_same, same_property}
use Rattle.property_store.proofs.LinkLemmas.{link_elsewhere, link_here, link_of_old, links_same, same_properties}
use Rattle.property_store.proofs.MarkLemmas.{each_same, marked_linked}
use Rattle.property_store.proofs.KindLemmas.{as_many}
use Rattle.property_store.proofs.PlaceLemmas.{IsChanged, IsFoundAt, marks_seen, shelves_seen, under_all}
use Rattle.property_store.proofs.StoreLemmas.{IsRowOf, number}

joined_marks : (rows : List (List (Keyed Row))) (heads : List Head) → length heads ≡ length rows → (place : ℕ)
    → get_or (paired marks_of rows heads) place no_marks ≡ marks_of (get_or rows place []) (get_or heads place head.None)
joined_marks [] [] same place = refl
joined_marks [] (first ∷ heads) same place = absurd (omega arith)
joined_marks (row ∷ rows) [] same place = absurd (omega arith)
joined_marks (row ∷ rows) (first ∷ heads) same zero = refl
joined_marks (row ∷ rows) (first ∷ heads) same (suc place) = joined_marks rows heads (omega arith) place

-- rows and heads, as they stand and after a change of one place
pub record AreMoved (rows : Table (List (Keyed Row))) (heads : Table Head) (rows' : Table (List (Keyed Row))) (heads' : Table Head) (place : ℕ)
    (list : List (Keyed Row)) (first : Head) : Type 0 where
  pub rows_are : rows' ≡ with_place rows place list
  pub heads_are : heads' ≡ with_place heads place first

module _ {layouts : List (List Field)} {rows : Table (List (Keyed Row))} {heads : Table Head} (kept : IsKept layouts rows heads) {seen : StoresView}
    (view_is : stock_of layouts rows heads ≡ seen) (place : ℕ) where
  pub marks_there : marks_at seen.marks place ≡ marks_of (rows_at rows place) (head_at heads place)
  marks_there = search (rules, marks_seen, joined_marks)

  module _ {rows' : Table (List (Keyed Row))} {heads' : Table Head} {list : List (Keyed Row)} {first : Head} (is_place : IsPlace rows place)
      (moved : AreMoved rows heads rows' heads' place list first) where
    pub limited_moved : limited rows' heads'.room ≡ with_place (limited rows heads.room) place list
    limited_moved = (λ i. limited (moved.rows_are i) (moved.heads_are i).room)

    rows_here : rows_at rows' place ≡ list
    rows_here = grind (arith, common_steps)

    head_here : head_at heads' place ≡ first
    head_here = grind (arith, common_steps)

    rows_beside : (other : ℕ) → other ≢ place → rows_at rows' other ≡ rows_at rows other
    rows_beside other differ = grind (arith, common_steps)

    head_beside : (other : ℕ) → other ≢ place → head_at heads' other ≡ head_at heads other
    head_beside other differ = grind (arith, common_steps)

    pub kept_moved : AreKept layouts rows' → AreChained list first → IsKept layouts rows' heads'
    kept_moved sound chained = grind (arith, common_steps)

    pub here_moved : marks_at (paired marks_of rows'.places heads'.places) place ≡ marks_of list first
    here_moved = search (rules, joined_marks, rows_here, head_here)

    pub beside_moved : (other : ℕ) → other ≢ place → marks_at (paired marks_of rows'.places heads'.places) other ≡ marks_at seen.marks other
    beside_moved other differ = search (rules, joined_marks, rows_beside, head_beside, marks_seen)

    pub marked_moved : (these : Property → Bool)
        → ((q : Property) → is_marked (marks_of list first) q ≡ (these q || is_marked (marks_of (rows_at rows place) (head_at heads place)) q))
        → AreMarked place these seen.marks (paired marks_of rows'.places heads'.places)
    marked_moved these are = record {
      here = λ q. ap (λ marks. is_marked marks q) here_moved ∙ (are q ∙ ap (λ marks. these q || is_marked marks q) (sym marks_there));
      others = beside_moved;
    }

    pub has_moved : (marks : Marks) → marks_of list first ≡ marks → HasMarks place marks seen.marks (paired marks_of rows'.places heads'.places)
    has_moved marks are = record { here = here_moved ∙ are; others = beside_moved }

    pub marks_kept : marks_of list first ≡ marks_of (rows_at rows place) (head_at heads place) → paired marks_of rows'.places heads'.places ≡ seen.marks
    marks_kept are = grind (
      arith,
      nat_tests,
      paired_set marks_of rows.places heads.places place list first (sym kept.same),
      joined_marks rows.places heads.places kept.same place,
      set-get_or (paired marks_of rows.places heads.places) place no_marks,
      marks_seen view_is,
    )

-- the row of an object is another
module _ (rows : List (Keyed Row)) (key n : ℕ) (old row : Row) (is : IsRowOf rows key n old) (numbered : row.object ≡ n) (first : Head)
    (chained : AreChained rows first) where
  many_changed : length row.links ≡ length row.values → All (λ keyed. length keyed.row.links ≡ length keyed.row.values) (with_row rows key row)
  many_changed many = grind (
    arith,
    nat_tests,
    All-map (λ (keyed : Keyed Row). length keyed.row.links ≡ length keyed.row.values)
        (λ (keyed : Keyed Row). cond (keyed.key == key) (record { key = key; row = row }) keyed) rows,
  )

  pub properties_changed : length row.links ≡ length old.links → properties_in (with_row rows key row) ≡ properties_in rows
  properties_changed many = search (rules, same_properties)

  -- with the same links
  module _ (same : row.links ≡ old.links) where
    pub chained_same : length row.links ≡ length row.values → AreChained (with_row rows key row) first
    chained_same many = search (rules, many_changed, linked_same, links_same)

    pub marks_same : marks_of (with_row rows key row) first ≡ marks_of rows first
    marks_same = ap {B = Marks} (λ list. record { all = is_all first; each = list })
        (each_same rows (with_row rows key row) first (properties_changed (ap length same)) (links_same rows key n old row is numbered same))

  -- one property is marked
  pub chained_marked : (at : ℕ) (linked : Bool) → IsMarking first at old.links row.links linked → length row.links ≡ length row.values
      → AreChained (with_row rows key row) (cond linked (head.First (record { object = n; number = at })) first)
  chained_marked at true marking many = grind (
    arith,
    nat_tests,
    number,
    slice_get_within old.links,
    many_changed many,
    linked_more (link_at rows) (link_at (with_row rows key row)) (first_of first) (record { object = n; number = at }),
    link_of_old rows key n old row is numbered,
    marking.0,
    link_here rows key n old row is numbered,
    link_elsewhere rows key n old row is numbered,
  )
  chained_marked at false marking many = chained_same marking.0 many

  pub marked_marked : (at : ℕ) (linked : Bool) → IsMarking first at old.links row.links linked → (q : Property)
      → is_marked (marks_of (with_row rows key row) (cond linked (head.First (record { object = n; number = at })) first)) q
      ≡ (is_property (record { object = n; number = at }) q || is_marked (marks_of rows first) q)
  marked_marked at true marking q =
      let within = slice_get_within old.links at _ marking.0 in
      let to = link_to (first_of first) in
      marked_linked (with_row rows key row) (head.First (record { object = n; number = at })) q
      ∙ ⊎_elim
      (λ (here : is_property (record { object = n; number = at }) q ≡ true).
      ap (λ r. is_linked (link_at (with_row rows key row) r)) (sym (same_property (record { object = n; number = at }) q here))
      ∙ (ap is_linked (link_here rows key n old row is numbered at to within marking.2)
      ∙ (ends (first_of first) ∙ sym (or_left _ (is_marked (marks_of rows first) q) here))))
      (λ (other : is_property (record { object = n; number = at }) q ≡ false).
      ap is_linked (link_elsewhere rows key n old row is numbered at to within marking.2 q other)
      ∙ sym (ap (λ b. b || is_marked (marks_of rows first) q) other ∙ (marked_linked rows first q ∙ ap (λ b. b || is_linked (link_at rows q)) marking.1)))
      (cases_Bool (is_property (record { object = n; number = at }) q))
    where
      ends : (o : Option Property) → is_linked (Some (link_to o)) ≡ true
      ends None = refl
      ends (Some p) = refl
  marked_marked at false marking q =
      ap (λ marks. is_marked marks q) (marks_same marking.0)
      ∙ ⊎_elim
      (λ (here : is_property (record { object = n; number = at }) q ≡ true).
      already here ∙ sym (or_left _ (is_marked (marks_of rows first) q) here))
      (λ (other : is_property (record { object = n; number = at }) q ≡ false). sym (ap (λ b. b || is_marked (marks_of rows first) q) other))
      (cases_Bool (is_property (record { object = n; number = at }) q))
    where
      already : is_property (record { object = n; number = at }) q ≡ true → is_marked (marks_of rows first) q ≡ true
      already here = marked_linked rows first q ∙ ⊎_elim
          (λ (all : is_all first ≡ true). or_left (is_all first) (is_linked (link_at rows q)) all)
          (λ (some : is_all first ≡ false).
          or_right (is_all first) (is_linked (link_at rows q))
          (ap (λ r. is_linked (link_at rows r)) (sym (same_property (record { object = n; number = at }) q here))
          ∙ (ap is_linked (link_of_old rows key n old row is numbered (record { object = n; number = at }) refl) ∙ marking.1 some)))
          (cases_Bool (is_all first))

-- a call has changed the row of a number where it stands, and the head is another
pub record IsRowChanged (layouts : List (List Field)) (rows : Table (List (Keyed Row))) (heads : Table Head) (rows' : Table (List (Keyed Row)))
    (heads' : Table Head) (seen : StoresView) (place key n : ℕ) (old row : Row) (first : Head) : Type 0 where
  pub kept : IsKept layouts rows heads
  pub view_is : stock_of layouts rows heads ≡ seen
  pub is_place : IsPlace seen.shelves.table place
  pub at : IsFoundAt (rows_at rows place) key n old
  pub rows_are : rows' ≡ with_place rows place (with_row (rows_at rows place) key row)
  pub heads_are : heads' ≡ with_place heads place first

-- so it is where the row that was found was lent and left so
pub row_changed : {layouts : List (List Field)} {rows : Table (List (Keyed Row))} {heads : Table Head} {rows' : Table (List (Keyed Row))}
    {heads' : Table Head} {seen : StoresView} {place key n : ℕ} {old row lent left : Row} {first : Head} → IsKept layouts rows heads
    → stock_of layouts rows heads ≡ seen → IsPlace seen.shelves.table place → table.IsSound number (rows_at rows place)
    → Some key ≡ key_of number (rows_at rows place) n → row_under (rows_at rows place) key ≡ Some lent → old ≡ lent → row ≡ left
    → rows' ≡ with_place rows place (with_row (rows_at rows place) key left) → heads' ≡ with_place heads place first
    → IsRowChanged layouts rows heads rows' heads' seen place key n old row first
row_changed {rows = rows} {place = place} {key = key} kept view_is is_place sound found under lends leaves rows_are heads_are = record {
  kept = kept;
  view_is = view_is;
  is_place = is_place;
  at = record { sound = sound; found = sym found; under = under ∙ ap Some (sym lends) };
  rows_are = rows_are ∙ ap (λ row. with_place rows place (with_row (rows_at rows place) key row)) (sym leaves);
  heads_are = heads_are;
}

pub same_head : (heads : Table Head) (place : ℕ) → heads ≡ with_place heads place (head_at heads place)
same_head heads place = sym (with_same head.None heads place)

module _ {layouts : List (List Field)} {rows : Table (List (Keyed Row))} {heads : Table Head} {rows' : Table (List (Keyed Row))} {heads' : Table Head}
    {seen : StoresView} {place key n : ℕ} {old row : Row} {first : Head}
    (it : IsRowChanged layouts rows heads rows' heads' seen place key n old row first) where
  pub in_rows : IsPlace rows place
  in_rows = grind (arith, common_steps)

  pub as_moved : AreMoved rows heads rows' heads' place (with_row (rows_at rows place) key row) first
  as_moved = record { rows_are = it.rows_are; heads_are = it.heads_are }

  pub as_changed : IsChanged layouts (limited rows heads.room) (limited rows' heads'.room) seen.shelves place key n old row
  as_changed = record {
    kept = it.kept.sound;
    view_is = shelves_seen it.view_is;
    is_place = it.is_place;
    at = it.at;
    new_is = (λ i. limited (it.rows_are i) (it.heads_are i).room);
  }

-- a value and a link stand for each declared property of a row
pub each_many : {layouts : List (List Field)} {rows : Table (List (Keyed Row))} {heads : Table Head} (kept : IsKept layouts rows heads) (place : ℕ)
    → IsPlace rows place → All (λ keyed. AreAsMany (fields_in layouts keyed.row.class) keyed.row) (rows_at rows place)
each_many kept place is_place k d within =
    let values = as_many _ (kept.sound place [] is_place k d within) in
    record { values = values; links = (kept.chained place).as_many k d within ∙ values }

pub under_many : {layouts : List (List Field)} {rows : Table (List (Keyed Row))} {heads : Table Head} (kept : IsKept layouts rows heads) (place : ℕ)
    → IsPlace rows place → (key : ℕ) (row : Row) → row_under (rows_at rows place) key ≡ Some row → AreAsMany (fields_in layouts row.class) row
under_many {layouts} {rows} kept place is_place = under_all (λ row. AreAsMany (fields_in layouts row.class) row) (rows_at rows place)
    (each_many kept place is_place)
