-- Rows and kinships of the same places, seen as forests.
use Rattle.std.proofs.Common.{◌≡◌, ℕ, ◌<◌, ◌≤◌, ◌+◌, ◌==◌, ◌∙◌, false, List, [], Option, Some, None, length, map}
use Rattle.std.proofs.Common.{filter, get_or, refl, sym, ap, subst, arith}
use Rattle.std.specs.List.{All}
use Rattle.std.specs.Option.{option_map}
use Rattle.std.proofs.lemmas.Bool.{cond_both}
use Rattle.std.proofs.lemmas.List.{length-set, length_push, map_push, get_or-map}
use Rattle.std.proofs.lemmas.List.{length-map}
use Rattle.shared_rows.specs.Table.{ChangesAt, IsPlace, Table, opened, with_place}
use Rattle.shared_rows.specs.Paired.{paired_tables}
use Rattle.shared_rows.proofs.ForCallers.{changes_twice, changes_with, with_same, with_there}
use Rattle.shared_rows.proofs.ForCallers.{each_opened, each_with, pairs_at, pairs_length, pairs_opened, pairs_with}
use Rattle.shared_rows.specs.Links.{AreLinked, IsInOrder, Linked, with_link, without_link}
use Rattle.shared_rows.proofs.LinkedLemmas.{linked_push, linked_same}
use Rattle.shared_rows.specs.Rows as shared
use Rattle.shared_rows.specs.Rows.{Keyed, key_of, row_under, rows_at, with_row}
use Rattle.shared_rows.specs.Rows.{added as added_key}
use Rattle.object_tree.specs.declared.row.Row.{Row}
use Rattle.object_tree.specs.declared.child.Child.{Child}
use Rattle.object_tree.specs.declared.forests.Kinship.{Kinship}
use Rattle.object_tree.specs.Rows.{children, has_number, is_same, row_of}
use Rattle.object_tree.specs.Forest.{Forest, IsSound, empty_forest}
use Rattle.object_tree.specs.Changes.{added, changed, moved, orphaned, removed}
use Rattle.object_tree.specs.Refusing.{add_refusal, keeps_parent, set_parent_refusal}
use Rattle.object_tree.specs.Table.{forest_at, with_forest}
use Rattle.object_tree.specs.Children.{IsKept, IsPlaceKept, child_cmp, child_of, forest_of, order_of, rows_of}
use Rattle.object_tree.proofs.NumberLemmas.{number_of, unchanged, without}
use Rattle.object_tree.proofs.RowLemmas.{change_one}
use Rattle.object_tree.proofs.KeyLemmas.{Stands, absent_row, stands}
use Rattle.object_tree.proofs.ForestLemmas.{counted_of, sound_changed, sound_empty, sound_removed}
use Rattle.object_tree.proofs.LawLemmas.{sound_by_added, sound_by_moved}
use Rattle.object_tree.proofs.ChildLemmas.{child_same, child_total, group_is, links_out, orphans_absent, parents_begin}

pub nobodys : Kinship
nobodys = record { last_number = 0; last_stamp = 0; children = record { links = []; capacity = 0 } }

abbrev pub Shared : Type 0
Shared = Table (List (Keyed Row))

-- what a search by number found
pub stands_under : {keyed : List (Keyed Row)} {key n : ℕ} {row : Row} → shared.IsSound number_of keyed → row_under keyed key ≡ Some row
    → option_map number_of (row_under keyed key) ≡ Some n → Stands key n row keyed
stands_under {keyed} {key} {n} {row} sound under is = stands keyed key n row sound under
    (let same : Some row.number ≡ Some n = ap (option_map number_of) (sym under) ∙ is in cc)

-- both tables are kept, and seen with another forest at a place
pub record IsChanged (table : Table Forest) (place : ℕ) (rows : Shared) (kinships : Table Kinship) (forest : Forest) : Type 0 where
  pub kept : IsKept rows kinships
  pub seen : paired_tables forest_of rows kinships ≡ with_forest table place forest

pub unchanged_seen : {table : Table Forest} {place : ℕ} {rows : Shared} {kinships : Table Kinship} → IsChanged table place rows kinships (forest_at table place)
    → paired_tables forest_of rows kinships ≡ table
unchanged_seen {table} {place} changed = changed.seen ∙ with_same empty_forest table place

-- a place that has neither a row nor a link
empty_kept : (kinship : Kinship) → kinship.children.links ≡ [] → kinship.last_number ≡ 0 → kinship.last_stamp ≡ 0 → IsPlaceKept [] kinship
empty_kept kinship none number stamp = record {
  linked = rw none (record { each = λ k d h. absurd (omega arith); all = λ k d h. absurd (omega arith) });
  sound = rw (number, stamp) sound_empty;
}

module _ {rows : Shared} {kinships : Table Kinship} {table : Table Forest} (kept : IsKept rows kinships)
    (view : paired_tables forest_of rows kinships ≡ table) where
  pub as_many : length table.places ≡ length kinships.places
  as_many = pairs_length forest_of rows kinships kept.same view ∙ kept.same

  module _ (place : ℕ) (is_place : IsPlace table place) where
    pub in_kinships : IsPlace kinships place
    in_kinships = omega (arith, as_many)

    pub in_rows : IsPlace rows place
    in_rows = omega (arith, in_kinships, kept.same)

    each_kept : (other : ℕ) (default : Kinship) → other < length rows.places → IsPlaceKept (rows_at rows other) (get_or kinships.places other default)
    each_kept other default within = kept.each other default (omega (arith, kept.same))

    -- other rows and another kinship at the place
    pub becomes : {new_rows : Shared} {new_kinships : Table Kinship} (keyed : List (Keyed Row)) (kinship : Kinship) (forest : Forest)
        → new_rows ≡ with_place rows place keyed → new_kinships ≡ with_place kinships place kinship
        → forest_of keyed kinship ≡ forest → AreLinked child_of (rows_of keyed) kinship.children.links → IsSound forest
        → IsChanged table place new_rows new_kinships forest
    becomes {new_rows} {new_kinships} keyed kinship forest rows_are kinships_are is linked sound = record {
      kept = rw (rows_are, kinships_are) (record {
        same = length-set rows.places place keyed ∙ (kept.same ∙ sym (length-set kinships.places place kinship));
        each = λ other default within. each_with IsPlaceKept rows.places kinships.places [] kept.same each_kept place keyed kinship in_rows
            (record { linked = linked; sound = rw is sound }) other default (omega (arith, length-set kinships.places place kinship, kept.same));
      });
      seen =
          (λ i. paired_tables forest_of (rows_are i) (kinships_are i))
          ∙ (pairs_with forest_of rows kinships kept.same view place keyed kinship ∙ ap (with_forest table place) is);
    }

    -- its forest, also where nothing was read there
    pub seen_anyhow : forest_at table place ≡ forest_of (rows_at rows place) (get_or kinships.places place nobodys)
    seen_anyhow = pairs_at forest_of rows kinships kept.same view place [] nobodys empty_forest in_rows

    pub sound_anyhow : IsSound (forest_at table place)
    sound_anyhow = subst IsSound (sym seen_anyhow) (kept.each place nobodys in_kinships).sound

    pub cleared : {new_rows : Shared} (kinship : Kinship) → new_rows ≡ with_place rows place [] → kinship.last_number ≡ 0 → kinship.last_stamp ≡ 0
        → kinship.children.links ≡ [] → IsChanged table place new_rows (with_place kinships place kinship) empty_forest
    cleared kinship rows_are number stamp none = becomes [] kinship empty_forest rows_are refl
        (λ i. record { rows = []; last_number = number i; last_stamp = stamp i }) (empty_kept kinship none number stamp).linked sound_empty

    -- what stands there
    module _ (now : Kinship) (now_is : (default : Kinship) → now ≡ get_or kinships.places place default) where
      pub here : IsPlaceKept (rows_at rows place) now
      here = subst (IsPlaceKept (rows_at rows place)) (sym (now_is nobodys)) (kept.each place nobodys in_kinships)

      pub forest_is : forest_at table place ≡ forest_of (rows_at rows place) now
      forest_is = seen_anyhow ∙ ap (forest_of (rows_at rows place)) (sym (now_is nobodys))

      -- with other room for links
      pub same_forest : {new_rows : Shared} (children : Linked Child) → new_rows ≡ rows → children.links ≡ now.children.links
          → IsChanged table place new_rows (with_place kinships place (record now { children = children })) (forest_at table place)
      same_forest children same links = becomes (rows_at rows place) (record now { children = children }) (forest_at table place)
          (same ∙ sym (with_same [] rows place)) refl (sym forest_is)
          (subst (AreLinked child_of (rows_of (rows_at rows place))) (sym links) here.linked) sound_anyhow

      -- one more row
      pub one_more : {new_rows : Shared} (key : ℕ) (children : Linked Child) (parent : Option ℕ) (class : ℕ) → add_refusal (forest_at table place) parent ≡ None
          → new_rows ≡ with_place rows place (added_key (rows_at rows place) key
          (record { number = now.last_number + 1; class = class; parent = parent; stamp = now.last_stamp + 1; dying = false; blocked = false }))
          → children.links ≡ with_link child_cmp now.children.links
          (child_of (record { number = now.last_number + 1; class = class; parent = parent; stamp = now.last_stamp + 1; dying = false; blocked = false }))
          → IsChanged table place new_rows (with_place kinships place
          (record { last_number = now.last_number + 1; last_stamp = now.last_stamp + 1; children = children })) (added (forest_at table place) parent class)
      unfolding added
      one_more key children parent class allowed rows_are links =
          let row : Row = record { number = now.last_number + 1; class = class; parent = parent; stamp = now.last_stamp + 1; dying = false; blocked = false } in
          let pushed = map_push (λ (k : Keyed Row). k.row) (rows_at rows place) (record { key = key; row = row }) in
          becomes (added_key (rows_at rows place) key row) (record { last_number = now.last_number + 1; last_stamp = now.last_stamp + 1; children = children })
          (added (forest_at table place) parent class) rows_are refl
          ((λ i. record { rows = pushed i; last_number = now.last_number + 1; last_stamp = now.last_stamp + 1 })
          ∙ ap (λ forest. added forest parent class) (sym forest_is))
          (rw (pushed, links) (linked_push child_total child_same child_of (rows_of (rows_at rows place)) now.children.links row here.linked))
          (sound_by_added (forest_at table place) parent class allowed sound_anyhow)

      pub below_next : All (λ (k : Keyed Row). k.row.number < now.last_number + 1) (rows_at rows place)
      below_next k d within =
          let given : (get_or (rows_of (rows_at rows place)) k d.row).number ≤ now.last_number =
          here.sound.numbers_given k d.row (omega (arith, length-map (rows_at rows place) (λ (k : Keyed Row). k.row))) in
          omega (arith, ap number_of (get_or-map (λ (k : Keyed Row). k.row) (rows_at rows place) k d d.row within))

      -- an object that came to another parent
      pub moved_to : {new_rows : Shared} (children : Linked Child) (o : ℕ) (parent : Option ℕ) → set_parent_refusal (forest_at table place) o parent ≡ None
          → keeps_parent (forest_at table place).rows o parent ≡ false
          → ChangesAt [] place rows new_rows → rows_of (rows_at new_rows place)
          ≡ changed (λ row. record row { parent = parent; stamp = now.last_stamp + 1 }) o (rows_of (rows_at rows place))
          → AreLinked child_of (rows_of (rows_at new_rows place)) children.links
          → IsChanged table place new_rows (with_place kinships place
          (record { last_number = now.last_number; last_stamp = now.last_stamp + 1; children = children })) (moved (forest_at table place) o parent)
      unfolding moved
      moved_to {new_rows} children o parent allowed other elsewhere rows_are linked =
          becomes (rows_at new_rows place) (record { last_number = now.last_number; last_stamp = now.last_stamp + 1; children = children })
          (moved (forest_at table place) o parent) elsewhere refl
          ((λ i. record { rows = rows_are i; last_number = now.last_number; last_stamp = now.last_stamp + 1 })
          ∙ ap (λ forest. moved forest o parent) (sym forest_is)) linked
          (sound_by_moved (forest_at table place) o parent allowed other sound_anyhow)

      -- the children of a parent
      pub kids_now : IsInOrder child_cmp now.children.links → (parent : Option ℕ) → is_same parent (Some 0) ≡ false
          → map (λ (child : Child). child.number) (filter (λ child. child.parent == order_of parent) now.children.links)
          ≡ children (forest_at table place).rows parent
      kids_now order parent above =
          let forest : Forest = forest_of (rows_at rows place) now in
          group_is forest.rows now.children.links here.linked (parents_begin forest here.sound) parent above order
          (λ i j d lt within. ((counted_of forest here.sound).apart i j d lt within).stamp)
          ∙ ap (λ (forest : Forest). children forest.rows parent) (sym forest_is)

    -- a row that is not there
    pub absent : (n : ℕ) → None ≡ key_of number_of (rows_at rows place) n → row_of (forest_at table place).rows n ≡ None
    absent n none = ap (λ (forest : Forest). row_of forest.rows n) seen_anyhow ∙ absent_row (rows_at rows place) n none

    pub absent_same : (f : Row → Row) (n : ℕ) → None ≡ key_of number_of (rows_at rows place) n
        → table ≡ with_forest table place (record (forest_at table place) { rows = changed f n (forest_at table place).rows })
    absent_same f n none = sym ((λ i. with_forest table place
        (record (forest_at table place) { rows = (unchanged f n (forest_at table place).rows (absent n none)).0 i })) ∙ with_same empty_forest table place)

    pub absent_gone : {new_rows : Shared} (n : ℕ) → new_rows ≡ rows → key_of number_of (rows_at rows place) n ≡ None
        → paired_tables forest_of new_rows kinships ≡ with_forest table place (removed (forest_at table place) n)
    unfolding removed
    absent_gone n same none =
        ap (λ rows. paired_tables forest_of rows kinships) same
        ∙ (view ∙ (sym (with_same empty_forest table place) ∙ λ i. with_forest table place
        (record (forest_at table place) { rows = sym (orphans_absent (forest_at table place) sound_anyhow n (absent n (sym none))) i })))

    -- a row that is there
    module _ {key n : ℕ} {row : Row} (at : Stands key n row (rows_at rows place)) where
      pub is_row : row_of (forest_at table place).rows n ≡ Some row
      is_row = ap (λ (forest : Forest). row_of forest.rows n) seen_anyhow ∙ at.is_row

      -- it changes as no child does
      pub edited : {new_rows : Shared} (f : Row → Row) → new_rows ≡ with_place rows place (with_row (rows_at rows place) key (f row))
          → ((r : Row) → (f r).number ≡ r.number) → ((r : Row) → (f r).stamp ≡ r.stamp) → ((r : Row) → (f r).parent ≡ r.parent)
          → IsChanged table place new_rows kinships (record (forest_at table place) { rows = changed f n (forest_at table place).rows })
      edited f rows_are number stamp parent =
          let now : Kinship = get_or kinships.places place nobodys in
          becomes (with_row (rows_at rows place) key (f row)) now (record (forest_at table place) { rows = changed f n (forest_at table place).rows }) rows_are
          (sym (with_same nobodys kinships place))
          ((λ i. record (forest_of (rows_at rows place) now) { rows = at.put f i })
          ∙ ap (λ (forest : Forest). record forest { rows = changed f n forest.rows }) (sym seen_anyhow))
          (rw (at.put f) (linked_same child_of (change_one f n)
          (λ r. cond_both (has_number n r) (f r) r (λ s. child_of s ≡ child_of r)
          (λ _ i. record { stamp = stamp r i; parent = order_of (parent r i); number = number r i }) (λ _. refl))
          (rows_of (rows_at rows place)) now.children.links (kept.each place nobodys in_kinships).linked))
          (sound_changed f n (forest_at table place) number stamp (λ r p is. sym (parent r) ∙ is) sound_anyhow)

      -- it goes, and its children become roots
      module _ {middle : Shared} (now : Kinship) (now_is : (default : Kinship) → now ≡ get_or kinships.places place default)
          (middle_is : middle ≡ with_place rows place (shared.without (rows_at rows place) key)) where
        middle_rows : rows_at middle place ≡ shared.without (rows_at rows place) key
        middle_rows = ap (λ t. rows_at t place) middle_is ∙ with_there [] rows place (shared.without (rows_at rows place) key) in_rows

        pub middle_place : IsPlace middle place
        middle_place = omega (
          arith,
          in_rows,
          ap (λ (t : Shared). length t.places) middle_is,
          length-set rows.places place (shared.without (rows_at rows place) key),
        )

        pub middle_linked : {links : List Child} → links ≡ without_link child_cmp now.children.links (child_of row)
            → AreLinked child_of (rows_of (rows_at middle place)) links
        middle_linked is = rw (middle_rows, is) (links_out at (here now now_is).linked)

        pub gone : {new_rows : Shared} (children : Linked Child) → ChangesAt [] place middle new_rows
            → rows_of (rows_at new_rows place) ≡ map (orphaned n) (rows_of (rows_at middle place))
            → AreLinked child_of (rows_of (rows_at new_rows place)) children.links
            → IsChanged table place new_rows (with_place kinships place (record now { children = children })) (removed (forest_at table place) n)
        unfolding removed
        gone {new_rows} children elsewhere rows_are linked =
            let left : rows_of (rows_at middle place) ≡ without n (rows_of (rows_at rows place)) = ap rows_of middle_rows ∙ at.out in
            becomes (rows_at new_rows place) (record now { children = children }) (removed (forest_at table place) n)
            (changes_twice [] rows middle new_rows place (changes_with [] rows middle place (shared.without (rows_at rows place) key) in_rows middle_is)
            elsewhere) refl
            ((λ i. record { rows = (rows_are ∙ ap (map (orphaned n)) left) i; last_number = now.last_number; last_stamp = now.last_stamp })
            ∙ ap (λ forest. removed forest n) (sym (forest_is now now_is))) linked
            (sound_removed n (forest_at table place) sound_anyhow)

-- the same places
pub ready_kept : {rows new_rows : Shared} {kinships new_kinships : Table Kinship} → IsKept rows kinships → new_rows.places ≡ rows.places
    → new_kinships.places ≡ kinships.places → IsKept new_rows new_kinships
ready_kept {rows} {new_rows} {kinships} {new_kinships} kept rows_are kinships_are = record {
  same = ap length rows_are ∙ (kept.same ∙ sym (ap length kinships_are));
  each = λ place default within. rw (rows_are, kinships_are) (kept.each place default (omega (arith, ap length kinships_are)));
}

-- one more place
module _ {rows new_rows : Shared} {kinships new_kinships : Table Kinship} {table : Table Forest} (kept : IsKept rows kinships)
    (view : paired_tables forest_of rows kinships ≡ table)
    (kinship : Kinship) (rows_are : new_rows ≡ opened rows []) (kinships_are : new_kinships ≡ opened kinships kinship) (number : kinship.last_number ≡ 0)
    (stamp : kinship.last_stamp ≡ 0) where
  pub open_kept : kinship.children.links ≡ [] → IsKept new_rows new_kinships
  open_kept none = rw (rows_are, kinships_are) (record {
    same = omega (arith, length_push rows.places [], length_push kinships.places kinship, kept.same);
    each = λ place default within. each_opened IsPlaceKept rows.places kinships.places [] kept.same
        (λ other d inside. kept.each other d (omega (arith, kept.same))) [] kinship
        (empty_kept kinship none number stamp) place default (omega (arith, length_push kinships.places kinship, kept.same));
  })

  pub open_seen : paired_tables forest_of new_rows new_kinships ≡ opened table empty_forest
  open_seen =
      (λ i. paired_tables forest_of (rows_are i) (kinships_are i))
      ∙ (pairs_opened forest_of rows kinships kept.same view [] kinship
      ∙ ap (opened table) (λ i. record { rows = []; last_number = number i; last_stamp = stamp i }))
