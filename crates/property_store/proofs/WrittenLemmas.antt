-- What a change of a row marks.
use Rattle.std.proofs.Common.{◌≡◌, ◌∙◌, ℕ, ◌&&◌, ◌||◌, Bool, true, false, cond, is_some, List, Option, Some, None, Result, Ok, Err, length, refl, sym, ap}
use Rattle.std.proofs.Common.{subst, rules}
use Rattle.std.specs.Option.{option_map, option_map_or}
use Rattle.std.specs.Prelude.{option_and_then}
use Rattle.std.specs.List.{slice_get}
use Rattle.std.proofs.lemmas.List.{length-set}
use Rattle.shared_rows.specs.Paired.{paired}
use Rattle.shared_rows.specs.Table.{Table}
use Rattle.shared_rows.specs.Rows.{Keyed, rows_at, with_row}
use Rattle.plain_types.specs.declared.code.Code.{Code}
use Rattle.variant_value.specs.declared.value.Value.{Value}
use Rattle.variant_value.specs.Values.{IsShort}
use Rattle.signature_core.specs.declared.kind.Kind.{Kind}
use Rattle.property_store.specs.declared.field.Field.{Field}
use Rattle.property_store.specs.declared.link.Head.{Head}
use Rattle.property_store.specs.declared.link.Head.TheVariants as head
use Rattle.property_store.specs.declared.link.Link.{Link}
use Rattle.property_store.specs.declared.property.Property.{Property}
use Rattle.property_store.specs.declared.row.Row.{Row}
use Rattle.property_store.specs.declared.row.Stored.{Stored}
use Rattle.property_store.specs.declared.unwritten.Unwritten.{Unwritten}
use Rattle.property_store.specs.Property.{is_property}
use Rattle.property_store.specs.Inside.{AreChained, AreKept, IsKept, head_at, limited, marks_of, shelves_of, stock_of}
use Rattle.property_store.specs.Marks.{AreMarked, Marks, is_marked, is_written, is_written_named, marks_at}
use Rattle.property_store.specs.Named.{declared_at}
use Rattle.property_store.specs.Store.{Store, field_number, fields_in, fitting, properties_of}
use Rattle.property_store.specs.Storing.{IsMarkedWith, IsNamed, IsNumbered, IsStored, fit_in, numbered, was_linked}
use Rattle.property_store.specs.Table.{StoresView, store_at}
use Rattle.property_store.proofs.HeadLemmas.{IsRowChanged, as_changed, as_moved, chained_marked, chained_same, in_rows, kept_moved, marked_marked, marked_moved}
use Rattle.property_store.proofs.HeadLemmas.{marks_kept, marks_same}
use Rattle.property_store.proofs.PlaceLemmas.{is_row, old_there, stock_same, under_all}
use Rattle.property_store.proofs.StoreLemmas.{IsRowOf}
use Rattle.property_store.proofs.WriteLemmas.{name_kept, row_kept, standing}

-- the head after a write
abbrev pub head_after : ℕ → ℕ → Head → Result Stored Code → Head
head_after n number first (Ok stored) = cond stored.is_linked (head.First (record { object = n; number = number })) first
head_after n number first (Err code) = first

abbrev pub head_after_named : ℕ → Head → Result (ℕ × Stored) Unwritten → Head
head_after_named n first (Ok stored) = cond stored.1.is_linked (head.First (record { object = n; number = stored.0 })) first
head_after_named n first (Err unwritten) = first

by_linked : (n number : ℕ) (first : Head) (result : Result Stored Code)
    → head_after n number first result ≡ cond (was_linked result) (head.First (record { object = n; number = number })) first
by_linked n number first (Ok stored) = refl
by_linked n number first (Err code) = refl

named_after : (n number : ℕ) (first : Head) (done : Result Stored Code) → head_after_named n first (numbered number done) ≡ head_after n number first done
named_after n number first (Ok stored) = refl
named_after n number first (Err code) = refl

-- what was not linked has the same links
same_links : (fit : Option Value) (first : Head) (number : ℕ) (old new : List Link) (linked : Bool) → linked ≡ false
    → IsMarkedWith fit first number old new linked → new ≡ old
same_links None first number old new linked off marked = marked.0
same_links (Some fit) first number old new true off marked = absurd (cc)
same_links (Some fit) first number old new false off marked = marked.0

same_many : (fit : Option Value) (first : Head) (number : ℕ) (old new : List Link) (linked : Bool) → IsMarkedWith fit first number old new linked
    → length new ≡ length old
same_many None first number old new linked marked = ap length marked.0
same_many (Some fit) first number old new true marked = ap length marked.2 ∙ length-set old number _
same_many (Some fit) first number old new false marked = ap length marked.0

-- where there is no object nothing is marked
pub nothing_marked : (place n : ℕ) (store : Store) (marks : List Marks) → properties_of store n ≡ None → (number : ℕ) (value : Value)
    → AreMarked place (is_written store n number value) marks marks
nothing_marked place n store marks none number value = record { here = λ q. rw none refl; others = λ other differ. refl }

pub no_name_marked : (place n : ℕ) (store : Store) (marks : List Marks) → properties_of store n ≡ None → (name : List ℕ) (value : Value)
    → AreMarked place (is_written_named store n name value) marks marks
no_name_marked place n store marks none name value = record { here = λ q. rw none refl; others = λ other differ. refl }

module _ {layouts : List (List Field)} {rows : Table (List (Keyed Row))} {heads : Table Head} {rows' : Table (List (Keyed Row))} {heads' : Table Head}
    {seen : StoresView} {place key n : ℕ} {old row : Row} {first : Head}
    (it : IsRowChanged layouts rows heads rows' heads' seen place key n old row first) where
  abbrev before : Head
  before = head_at heads place

  abbrev fields : List Field
  fields = fields_in layouts old.class

  abbrev store : Store
  store = store_at seen.shelves place

  is_old : IsRowOf (rows_at rows place) key n old
  is_old = is_row (as_changed it)

  old_many : length old.links ≡ length old.values
  old_many = under_all (λ row. length row.links ≡ length row.values) (rows_at rows place) (it.kept.chained place).as_many key old it.at.under

  -- with the same links
  module _ (same : row.links ≡ old.links) (values : length row.values ≡ length old.values) (numbered_same : row.object ≡ old.object)
      (head_same : first ≡ before) where
    numbered_n : row.object ≡ n
    numbered_n = numbered_same ∙ is_old.numbered

    pub kept_same : AreKept layouts rows' → IsKept layouts rows' heads'
    kept_same sound =
        kept_moved it.kept it.view_is place (in_rows it) (as_moved it) sound
        (subst (AreChained (with_row (rows_at rows place) key row)) (sym head_same)
        (chained_same (rows_at rows place) key n old row is_old numbered_n before (it.kept.chained place) same (ap length same ∙ (old_many ∙ sym values))))

    pub marks_as_before : paired marks_of rows'.places heads'.places ≡ seen.marks
    marks_as_before =
        marks_kept it.kept it.view_is place (in_rows it) (as_moved it)
        (ap (marks_of (with_row (rows_at rows place) key row)) head_same
        ∙ marks_same (rows_at rows place) key n old row is_old numbered_n before (it.kept.chained place) same)

  -- where the dynamic properties alone are others
  module _ (rest : row ≡ record old { dynamic = row.dynamic }) (head_same : first ≡ before) where
    pub kept_beside : AreKept layouts rows' → IsKept layouts rows' heads'
    kept_beside = kept_same (ap (λ (r : Row). r.links) rest) (ap (λ (r : Row). length r.values) rest) (ap (λ (r : Row). r.object) rest) head_same

    pub marks_beside : paired marks_of rows'.places heads'.places ≡ seen.marks
    marks_beside = marks_as_before (ap (λ (r : Row). r.links) rest) (ap (λ (r : Row). length r.values) rest) (ap (λ (r : Row). r.object) rest) head_same

  -- where a value was stored
  module _ {number : ℕ} {value : Value} {result : Result Stored Code} (said : IsStored fields number value before old row result)
      (head_is : first ≡ head_after n number before result) where
    numbered_as : row.object ≡ old.object
    numbered_as = ap (λ (r : Row). r.object) said.stored

    head_linked : first ≡ cond (was_linked result) (head.First (record { object = n; number = number })) before
    head_linked = head_is ∙ by_linked n number before result

    many : length row.links ≡ length row.values
    many = search (rules, same_many, old_many)

    chained_after : AreChained (with_row (rows_at rows place) key row) first
    chained_after = subst (AreChained (with_row (rows_at rows place) key row)) (sym head_linked)
        (by (fit_in fields number value) (was_linked result) said.marked)
      where
        by : (fit : Option Value) (linked : Bool) → IsMarkedWith fit before number old.links row.links linked
            → AreChained (with_row (rows_at rows place) key row) (cond linked (head.First (record { object = n; number = number })) before)
        by None linked marked =
            subst (λ b. AreChained (with_row (rows_at rows place) key row) (cond b (head.First (record { object = n; number = number })) before)) (sym marked.1)
            (chained_same (rows_at rows place) key n old row is_old (numbered_as ∙ is_old.numbered) before (it.kept.chained place) marked.0 many)
        by (Some fit) linked marked = chained_marked (rows_at rows place) key n old row is_old (numbered_as ∙ is_old.numbered) before
            (it.kept.chained place) number linked marked many

    pub stored_kept : IsShort value → IsKept layouts rows' heads'
    stored_kept short = kept_moved it.kept it.view_is place (in_rows it) (as_moved it) (row_kept (as_changed it) said short) chained_after

    fitting_is : fitting store n number value ≡ fit_in fields number value
    fitting_is = rw (old_there (as_changed it)) refl

    pub stored_marks : AreMarked place (is_written store n number value) seen.marks (paired marks_of rows'.places heads'.places)
    stored_marks = marked_moved it.kept it.view_is place (in_rows it) (as_moved it) (is_written store n number value)
        (λ q. ap (λ h. is_marked (marks_of (with_row (rows_at rows place) key row) h) q) head_linked
        ∙ (by (fit_in fields number value) (was_linked result) said.marked q
        ∙ ap (λ (fit : Option Value). (is_some fit && is_property (record { object = n; number = number }) q)
        || is_marked (marks_of (rows_at rows place) before) q) (sym fitting_is)))
      where
        by : (fit : Option Value) (linked : Bool) → IsMarkedWith fit before number old.links row.links linked → (q : Property)
            → is_marked (marks_of (with_row (rows_at rows place) key row) (cond linked (head.First (record { object = n; number = number })) before)) q
            ≡ ((is_some fit && is_property (record { object = n; number = number }) q) || is_marked (marks_of (rows_at rows place) before) q)
        by None linked marked q =
            ap (λ b. is_marked (marks_of (with_row (rows_at rows place) key row) (cond b (head.First (record { object = n; number = number })) before)) q)
            marked.1
            ∙ ap (λ marks. is_marked marks q) (marks_same (rows_at rows place) key n old row is_old (numbered_as ∙ is_old.numbered) before
            (it.kept.chained place) marked.0)
        by (Some fit) linked marked q = marked_marked (rows_at rows place) key n old row is_old (numbered_as ∙ is_old.numbered) before
            (it.kept.chained place) number linked marked q

    pub refused_same : was_linked result ≡ false → shelves_of layouts (limited rows' heads'.room) ≡ seen.shelves → stock_of layouts rows' heads' ≡ seen
    refused_same off shelves = search (rules, stock_same, marks_as_before, same_links, head_linked)

  -- and by its property's name
  module _ (name : List ℕ) (value : Value) (result : Result (ℕ × Stored) Unwritten) (said : IsNamed fields name value before old row result)
      (head_is : first ≡ head_after_named n before result) where
    pub named_kept : IsShort value → IsKept layouts rows' heads'
    named_kept short = by (field_number name fields) said
      where
        by : (found : Option ℕ) → IsNumbered fields value before old row result found → IsKept layouts rows' heads'
        by None none = kept_same (ap (λ (r : Row). r.links) none.1) (ap (λ (r : Row). length r.values) none.1) (ap (λ (r : Row). r.object) none.1)
            (head_is ∙ ap (head_after_named n before) none.0) (name_kept (as_changed it) name value before result said short)
        by (Some number) some = stored_kept some.1.2 (head_is ∙ (ap (head_after_named n before) some.1.1 ∙ named_after n number before some.1.0)) short

    declared_is : declared_at store n name ≡ option_and_then (λ number. option_map (λ (field : Field). (number, field.kind)) (slice_get fields number))
        (field_number name fields)
    declared_is = rw (old_there (as_changed it)) refl

    pub named_marks : AreMarked place (is_written_named store n name value) seen.marks (paired marks_of rows'.places heads'.places)
    named_marks = by (field_number name fields) refl said
      where
        as_declared : (found : Option (ℕ × Kind)) → declared_at store n name ≡ found
            → AreMarked place (λ q. option_map_or (λ (at : ℕ × Kind). is_written store n at.0 value q) found false) seen.marks
            (paired marks_of rows'.places heads'.places) → AreMarked place (is_written_named store n name value) seen.marks
            (paired marks_of rows'.places heads'.places)
        as_declared found is marked = subst (λ o. AreMarked place (λ q. option_map_or (λ (at : ℕ × Kind). is_written store n at.0 value q) o false) seen.marks
            (paired marks_of rows'.places heads'.places)) (sym is) marked

        by : (found : Option ℕ) → field_number name fields ≡ found → IsNumbered fields value before old row result found
            → AreMarked place (is_written_named store n name value) seen.marks (paired marks_of rows'.places heads'.places)
        by None is none = as_declared None (declared_is
            ∙ ap (option_and_then (λ number. option_map (λ (field : Field). (number, field.kind)) (slice_get fields number))) is)
            (record {
              here = λ q. ap (λ marks. is_marked (marks_at marks place) q) same;
              others = λ other differ. ap (λ marks. marks_at marks other) same;
            })
          where
            same : paired marks_of rows'.places heads'.places ≡ seen.marks
            same = marks_as_before (ap (λ (r : Row). r.links) none.1) (ap (λ (r : Row). length r.values) none.1) (ap (λ (r : Row). r.object) none.1)
                (head_is ∙ ap (head_after_named n before) none.0)
        by (Some number) is some =
            let there = standing fields number some.0 in
            as_declared (Some (number, there.0.kind))
            (declared_is ∙ (ap (option_and_then (λ number. option_map (λ (field : Field). (number, field.kind)) (slice_get fields number))) is
            ∙ ap (option_map (λ (field : Field). (number, field.kind))) there.1))
            (stored_marks some.1.2 (head_is ∙ (ap (head_after_named n before) some.1.1 ∙ named_after n number before some.1.0)))

    pub named_same : (unwritten : Unwritten) → result ≡ Err unwritten → shelves_of layouts (limited rows' heads'.room) ≡ seen.shelves
        → stock_of layouts rows' heads' ≡ seen
    named_same unwritten err shelves = by (field_number name fields) said
      where
        off : (number : ℕ) (done : Result Stored Code) → numbered number done ≡ Err unwritten → was_linked done ≡ false
        off number (Ok stored) e = absurd (cc)
        off number (Err code) e = refl

        by : (found : Option ℕ) → IsNumbered fields value before old row result found → stock_of layouts rows' heads' ≡ seen
        by None none = stock_same shelves (marks_as_before (ap (λ (r : Row). r.links) none.1) (ap (λ (r : Row). length r.values) none.1)
            (ap (λ (r : Row). r.object) none.1) (head_is ∙ ap (head_after_named n before) none.0))
        by (Some number) some = refused_same some.1.2 (head_is ∙ (ap (head_after_named n before) some.1.1 ∙ named_after n number before some.1.0))
            (off number some.1.0 (sym some.1.1 ∙ err)) shelves
