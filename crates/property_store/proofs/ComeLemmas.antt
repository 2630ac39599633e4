-- Objects and places that come, and objects that go.
use Rattle.std.proofs.lemmas.Option.{slice_get_past}
use Rattle.std.proofs.Common.{◌≡◌, ◌∙◌, ℕ, ◌<◌, ◌==◌, ◌&&◌, ◌||◌, ◌++◌, nat_lt, not, Bool, true, false, cond, List, [], ◌∷◌, Some, None, length, get_or, refl}
use Rattle.std.proofs.Common.{sym, ap, subst, arith, ⊎_elim, rules}
use Rattle.std.proofs.lemmas.Grind.{common_steps}
use Rattle.std.proofs.lemmas.Bool.Decides.{nat_tests}
use Rattle.std.specs.List.{All, slice_get}
use Rattle.std.proofs.lemmas.Bool.{and_right, cases_Bool, cases_eq, eq-eqb, le-ltb, lt-ltb, ne_eqb, or_left, or_right}
use Rattle.std.proofs.lemmas.List.Elements.{All-append, All-filter}
use Rattle.std.proofs.lemmas.List.{length_push}
use Rattle.shared_rows.specs.Paired.{paired}
use Rattle.shared_rows.specs.Table.{IsPlace, Table, opened, with_place}
use Rattle.shared_rows.proofs.ForCallers.{paired_push, default_pushed, with_same}
use Rattle.shared_rows.specs.Rows.{Keyed, inserted, key_of, rows_at, without}
use Rattle.property_store.specs.declared.field.Field.{Field}
use Rattle.property_store.specs.declared.link.Head.{Head}
use Rattle.property_store.specs.declared.link.Head.TheVariants as head
use Rattle.property_store.specs.declared.property.Property.{Property}
use Rattle.property_store.specs.declared.row.Row.{Row}
use Rattle.property_store.specs.Chain.{AreLinked, AreNew, first_of, is_all, is_linked}
use Rattle.property_store.specs.Inside.{AreChained, AreKept, AreRows, IsKept, head_at, limited, link_at, marks_of, shelves_of, stock_of, store_of}
use Rattle.property_store.specs.Marks.{AreMarked, HasMarks, Marks, all_marks, is_marked, is_new, marks_at, no_marks}
use Rattle.property_store.specs.Store.{Store, fields_in}
use Rattle.property_store.specs.Store as store
use Rattle.property_store.specs.Table.{StoresView, fields_of, store_at, with_store}
use Rattle.property_store.proofs.ChainLemmas.{linked_nothing}
use Rattle.property_store.proofs.HeadLemmas.{AreMoved, has_moved, kept_moved, limited_moved, marked_moved, marks_there}
use Rattle.property_store.proofs.LinkLemmas.{link_absent, link_before, link_new, new_linked, new_unlinked, unlinked_without}
use Rattle.property_store.proofs.MarkLemmas.{among_linked, each_none, marked_linked}
use Rattle.property_store.proofs.PlaceLemmas.{after, inserted_all, kept_with, marks_seen, shelves_seen, without_sound}
use Rattle.property_store.proofs.StoreLemmas.{IsRowOf, absent_kept, number, removed_shown}

module _ {layouts : List (List Field)} {rows : Table (List (Keyed Row))} {heads : Table Head} (kept : IsKept layouts rows heads) {seen : StoresView}
    (view_is : stock_of layouts rows heads ≡ seen) where
  -- a place is opened
  pub opened_kept : (rows' : Table (List (Keyed Row))) (heads' : Table Head) → rows' ≡ opened rows [] → heads' ≡ opened heads head.None
      → IsKept layouts rows' heads'
  opened_kept rows' heads' rows_are heads_are = record {
    sound = subst (AreKept layouts) (sym rows_are)
        (All-append (AreRows layouts) rows.places ([] ∷ []) kept.sound (λ k d within i d' inside. absurd (nothing k d within i inside)));
    same = omega (
      arith,
      kept.same,
      ap (λ (t : Table (List (Keyed Row))). length t.places) rows_are,
      ap (λ (t : Table Head). length t.places) heads_are,
      length_push rows.places [],
      length_push heads.places head.None,
    );
    chained = λ place.
        subst (λ l. AreChained l (head_at heads' place)) (sym (ap (λ t. rows_at t place) rows_are ∙ default_pushed [] rows.places place))
        (subst (AreChained (rows_at rows place)) (sym (ap (λ t. head_at t place) heads_are ∙ default_pushed head.None heads.places place))
        (kept.chained place));
  }
    where
      nothing : (k : ℕ) (d : List (Keyed Row)) → k < 1 → (i : ℕ) → i < length (get_or ([] ∷ []) k d) → ⊥
      nothing k d within i inside = grind (arith, common_steps)

  pub opened_marks : (rows' : Table (List (Keyed Row))) (heads' : Table Head) → rows' ≡ opened rows [] → heads' ≡ opened heads head.None
      → paired marks_of rows'.places heads'.places ≡ seen.marks ++ no_marks ∷ []
  opened_marks rows' heads' rows_are heads_are = search (rules, paired_push, marks_seen)

  module _ (place : ℕ) (is_place : IsPlace seen.shelves.table place) where
    abbrev here : List (Keyed Row)
    here = rows_at rows place

    abbrev before : Head
    before = head_at heads place

    in_rows : IsPlace rows place
    in_rows = grind (arith, common_steps)

    -- rows go where nothing is linked, and all is marked
    pub record AreGone (rows' : Table (List (Keyed Row))) (heads' : Table Head) (left : Store) : Type 0 where
      pub kept_still : IsKept layouts rows' heads'
      pub stores : shelves_of layouts (limited rows' heads'.room) ≡ with_store seen.shelves place left
      pub marks : HasMarks place all_marks seen.marks (paired marks_of rows'.places heads'.places)

    pub gone : (rows' : Table (List (Keyed Row))) (list : List (Keyed Row)) (left : Store) → rows' ≡ with_place rows place list → AreRows layouts list
        → All (λ keyed. length keyed.row.links ≡ length keyed.row.values) list
        → ((q : Property) → is_linked (link_at list q) ≡ false) → store_of layouts list ≡ left → AreGone rows' (with_place heads place head.All) left
    gone rows' list left rows_are sound many none is = record {
      kept_still = kept_moved kept view_is place in_rows moved (kept_with layouts rows kept.sound place rows' list rows_are sound)
          (record { as_many = many; linked = linked_nothing (link_at list) none });
      stores = after (limited rows heads.room) (shelves_seen view_is) place (limited rows' heads.room) list left
          (limited_moved kept view_is place in_rows moved) is;
      marks = has_moved kept view_is place in_rows moved all_marks (ap {B = Marks} (λ each. record { all = true; each = each }) (each_none list head.All none));
    }
      where
        moved : AreMoved rows heads rows' (with_place heads place head.All) place list head.All
        moved = record { rows_are = rows_are; heads_are = refl }

    pub all_gone : (rows' : Table (List (Keyed Row))) → rows' ≡ with_place rows place [] → AreGone rows' (with_place heads place head.All) []
    all_gone rows' rows_are = gone rows' [] [] rows_are (λ k d within. absurd (omega (arith, within))) (λ k d within. absurd (omega (arith, within)))
        (λ q. refl) refl

    pub none_linked : marks_at seen.marks place ≡ no_marks → (q : Property) → is_linked (link_at here q) ≡ false
    none_linked unmarked q = grind (arith, nat_tests, among_linked here before q, marks_there kept view_is place)

    -- an object goes
    module _ (unmarked : marks_at seen.marks place ≡ no_marks) (n : ℕ) (rows' : Table (List (Keyed Row))) where
      store_here : store.without n (store_of layouts here) ≡ store.without n (store_at seen.shelves place)
      store_here = grind (arith, common_steps)

      pub object_gone : (key : ℕ) (row : Row) → IsRowOf here key n row → rows' ≡ with_place rows place (without here key)
          → AreGone rows' (with_place heads place head.All) (store.without n (store_at seen.shelves place))
      object_gone key row is rows_are =
          gone rows' (without here key) (store.without n (store_at seen.shelves place)) rows_are
          (without_sound layouts here (kept.sound place [] in_rows) key)
          (All-filter (λ (keyed : Keyed Row). not (keyed.key == key)) (λ keyed. length keyed.row.links ≡ length keyed.row.values) here
          (kept.chained place).as_many)
          (unlinked_without here key n row is (none_linked unmarked))
          (removed_shown layouts here key n row is ∙ store_here)

      pub absent_gone : key_of number here n ≡ None → rows' ≡ rows
          → AreGone rows' (with_place heads place head.All) (store.without n (store_at seen.shelves place))
      absent_gone none rows_are =
          gone rows' here (store.without n (store_at seen.shelves place)) (rows_are ∙ sym (with_same [] rows place))
          (kept.sound place [] in_rows) (kept.chained place).as_many (none_linked unmarked)
          (sym (absent_kept layouts here n none) ∙ store_here)

    -- an object comes, whose properties are marked
    module _ (n class key : ℕ) (row : Row) (numbered : row.object ≡ n) (none : key_of number here n ≡ None)
        (new : AreNew n (length (fields_in layouts class)) before row.links) (many : length row.values ≡ length (fields_in layouts class)) where
      abbrev count : ℕ
      count = length (fields_in layouts class)

      abbrev list : List (Keyed Row)
      list = inserted number here key row

      abbrev then : Head
      then = cond (nat_lt 0 count && not (is_all before)) (head.First (record { object = n; number = 0 })) before

      on_new : (q : Property) → q.object ≡ n → link_at list q ≡ slice_get row.links q.number
      on_new q same = link_new here key row q (same ∙ sym numbered)

      beside : (q : Property) → (q.object ≡ n → ⊥) → link_at list q ≡ link_at here q
      beside q differ = link_before here key row q (λ same. differ (same ∙ numbered))

      absent : (q : Property) → q.object ≡ n → link_at here q ≡ None
      absent q same = link_absent here n none q same

      pub come_chained : AreChained list then
      come_chained = record {
        as_many = inserted_all (λ row. length row.links ≡ length row.values) here (kept.chained place).as_many key row (new.many ∙ sym many);
        linked = ⊎_elim
            (λ (all : is_all before ≡ true).
            subst (AreLinked (link_at list)) (sym (ap (λ b. first_of (cond (nat_lt 0 count && not b) (head.First (record { object = n; number = 0 })) before))
            all ∙ ap (λ b. first_of (cond b (head.First (record { object = n; number = 0 })) before)) (and_right (nat_lt 0 count) false refl)))
            (new_unlinked (link_at here) (link_at list) n count before row.links new on_new beside absent all (kept.chained place).linked))
            (λ (some : is_all before ≡ false).
            subst (AreLinked (link_at list)) (sym (ap (λ b. first_of (cond (nat_lt 0 count && not b) (head.First (record { object = n; number = 0 })) before))
            some ∙ either (nat_lt 0 count)))
            (new_linked (link_at here) (link_at list) n count before row.links new on_new beside absent some (kept.chained place).linked))
            (cases_Bool (is_all before));
      }
        where
          either : (b : Bool) → first_of (cond (b && true) (head.First (record { object = n; number = 0 })) before)
              ≡ cond b (Some (record { object = n; number = 0 })) (first_of before)
          either true = refl
          either false = refl

      fresh_linked : is_all before ≡ false → (k : ℕ) → is_linked (slice_get row.links k) ≡ nat_lt k count
      fresh_linked some k = search (rules, count, lt-ltb, slice_get_past, le-ltb)

      come_marked : (q : Property) → is_marked (marks_of list then) q ≡ (is_new n (fields_in layouts class) q || is_marked (marks_of here before) q)
      come_marked q = marked_linked list then q
          ∙ (⊎_elim on_all on_some (cases_Bool (is_all before)) ∙ ap (λ b. is_new n (fields_in layouts class) q || b) (sym (marked_linked here before q)))
        where
          on_all : is_all before ≡ true → (is_all then || is_linked (link_at list q))
              ≡ (is_new n (fields_in layouts class) q || (is_all before || is_linked (link_at here q)))
          on_all all =
              or_left (is_all then) _ (ap (λ b. is_all (cond (nat_lt 0 count && not b) (head.First (record { object = n; number = 0 })) before)) all
              ∙ (ap (λ b. is_all (cond b (head.First (record { object = n; number = 0 })) before)) (and_right (nat_lt 0 count) false refl) ∙ all))
              ∙ sym (or_right (is_new n (fields_in layouts class) q) _ (or_left (is_all before) _ all))

          not_all : is_all before ≡ false → is_all then ≡ false
          not_all some = by (nat_lt 0 count && not (is_all before))
            where
              by : (b : Bool) → is_all (cond b (head.First (record { object = n; number = 0 })) before) ≡ false
              by true = refl
              by false = some

          on_some : is_all before ≡ false → (is_all then || is_linked (link_at list q))
              ≡ (is_new n (fields_in layouts class) q || (is_all before || is_linked (link_at here q)))
          on_some some =
              ap (λ b. b || is_linked (link_at list q)) (not_all some)
              ∙ (⊎_elim
              (λ (same : q.object ≡ n).
              let at : (q.object == n) ≡ true = eq-eqb _ _ same in
              ap is_linked (on_new q same) ∙ (fresh_linked some q.number
              ∙ (sym (or_none (nat_lt q.number count)) ∙ (λ i. ((sym at i) && nat_lt q.number count) || is_linked (sym (absent q same) i)))))
              (λ (differ : q.object ≡ n → ⊥).
              let other : (q.object == n) ≡ false = ne_eqb _ _ differ in
              ap is_linked (beside q differ) ∙ ap (λ b. (b && nat_lt q.number count) || is_linked (link_at here q)) (sym other))
              (cases_eq q.object n)
              ∙ ap (λ b. is_new n (fields_in layouts class) q || (b || is_linked (link_at here q))) (sym some))
            where
              or_none : (b : Bool) → (b || false) ≡ b
              or_none true = refl
              or_none false = refl

      module _ (rows' : Table (List (Keyed Row))) (heads' : Table Head) (rows_are : rows' ≡ with_place rows place list)
          (heads_are : heads' ≡ with_place heads place then) where
        pub come_moved : AreMoved rows heads rows' heads' place list then
        come_moved = record { rows_are = rows_are; heads_are = heads_are }

        pub come_kept : AreKept layouts rows' → IsKept layouts rows' heads'
        come_kept sound = kept_moved kept view_is place in_rows come_moved sound come_chained

        pub come_marks : AreMarked place (is_new n (fields_of seen.shelves class)) seen.marks (paired marks_of rows'.places heads'.places)
        come_marks = grind (
          arith,
          nat_tests,
          shelves_seen view_is,
          marked_moved kept view_is place in_rows come_moved (is_new n (fields_in layouts class)) come_marked,
        )
