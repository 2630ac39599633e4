-- What is left where a mark is taken.
use Rattle.std.proofs.Common.{◌≡◌, ◌≢◌, ◌∙◌, ℕ, ◌==◌, Bool, true, false, cond, not, List, [], Option, Some, None, filter, length, get_or, refl, sym, ap, subst}
use Rattle.std.proofs.Common.{arith, rules}
use Rattle.std.proofs.lemmas.Grind.{common_steps}
use Rattle.std.proofs.lemmas.Bool.Decides.{nat_tests}
use Rattle.std.specs.Option.{IsSome}
use Rattle.std.proofs.lemmas.List.{length-set}
use Rattle.std.proofs.lemmas.List.Elements.{All-map}
use Rattle.shared_rows.specs.Paired.{paired}
use Rattle.shared_rows.specs.Table.{IsPlace, Table, with_place}
use Rattle.shared_rows.proofs.ForCallers.{with_same}
use Rattle.shared_rows.specs.Rows.{Keyed, rows_at}
use Rattle.property_store.specs.declared.field.Field.{Field}
use Rattle.property_store.specs.declared.link.Head.{Head}
use Rattle.property_store.specs.declared.link.Head.TheVariants as head
use Rattle.property_store.specs.declared.link.Link.{Link}
use Rattle.property_store.specs.declared.link.Link.TheVariants as link
use Rattle.property_store.specs.declared.property.Property.{Property}
use Rattle.property_store.specs.declared.row.Row.{Row}
use Rattle.property_store.specs.declared.written.Written.TheVariants as told
use Rattle.property_store.specs.Property.{among, is_property}
use Rattle.property_store.specs.Chain.{AreLinked, first_of, head_of, is_all, is_linked, next_of}
use Rattle.property_store.specs.Inside.{AreChained, AreRows, IsKept, head_at, limited, link_at, marks_of, shelves_of, shown, stock_of, store_of, unlinked}
use Rattle.property_store.specs.Inside.{without_link}
use Rattle.property_store.specs.Marks.{IsTaken, Marks, has_marks, marks_at}
use Rattle.property_store.specs.Store.{AreSound}
use Rattle.property_store.specs.Table.{StoresView, store_at}
use Rattle.property_store.proofs.ChainLemmas.{first_linked, linked_less}
use Rattle.property_store.proofs.HeadLemmas.{AreMoved, beside_moved, here_moved, kept_moved, limited_moved, marks_there}
use Rattle.property_store.proofs.LinkLemmas.{link_freed, link_kept, properties_freed}
use Rattle.property_store.proofs.ListLemmas.{map_at, map_over_map}
use Rattle.property_store.proofs.MarkLemmas.{each_less, first_marked, none_marked}
use Rattle.property_store.proofs.PlaceLemmas.{after, kept_with, shelves_seen, store_there, unchanged_store}

-- what holds after a mark is taken
pub record IsLeft (layouts : List (List Field)) (rows : Table (List (Keyed Row))) (heads : Table Head) (seen : StoresView) (place : ℕ) : Type 0 where
  pub kept : IsKept layouts rows heads
  pub shelves : shelves_of layouts (limited rows heads.room) ≡ seen.shelves
  pub others : (other : ℕ) → other ≢ place → marks_at (paired marks_of rows.places heads.places) other ≡ marks_at seen.marks other

module _ {layouts : List (List Field)} {rows : Table (List (Keyed Row))} {heads : Table Head} (kept : IsKept layouts rows heads) {seen : StoresView}
    (view_is : stock_of layouts rows heads ≡ seen) (place : ℕ) (is_place : IsPlace seen.shelves.table place) where
  abbrev here : List (Keyed Row)
  here = rows_at rows place

  in_rows : IsPlace rows place
  in_rows = grind (arith, common_steps)

  -- there is none
  pub none_taken : head_at heads place ≡ head.None → (has_marks (marks_at seen.marks place) ≡ false) × (marks_at seen.marks place ≡ marks_at seen.marks place)
  none_taken is = grind (
    arith,
    nat_tests,
    marks_there kept view_is place,
    none_marked here (subst (λ h. AreLinked (link_at here) (first_of h)) is (kept.chained place).linked) head.None,
  )

  -- all are taken
  module _ (is : head_at heads place ≡ head.All) where
    all_linked : AreLinked (link_at here) None
    all_linked = grind (arith, common_steps)

    all_moved : AreMoved rows heads rows (with_place heads place head.None) place here head.None
    all_moved = record { rows_are = sym (with_same [] rows place); heads_are = refl }

    pub all_left : IsLeft layouts rows (with_place heads place head.None) seen place
    all_left = grind (
      arith,
      nat_tests,
      kept_moved kept view_is place in_rows all_moved kept.sound
          (record { as_many = (kept.chained place).as_many; linked = all_linked }),
      all_linked,
      shelves_seen view_is,
      beside_moved kept view_is place in_rows all_moved,
    )

    pub all_taken : IsTaken (marks_at seen.marks place) (marks_at (paired marks_of rows.places (with_place heads place head.None).places) place) told.All
    all_taken = grind (arith, nat_tests, marks_there kept view_is place, here_moved kept view_is place in_rows all_moved, none_marked here all_linked head.None)

  -- that of one property
  module _ (at : Property) (is : head_at heads place ≡ head.First at) where
    first_is : AreLinked (link_at here) (Some at)
    first_is = grind (arith, common_steps)

    pub first_stands : IsSome (link_at here at)
    first_stands = grind (arith, nat_tests, first_linked (link_at here), first_is)

    module _ (to : Link) (was : link_at here at ≡ Some to) (rows' : Table (List (Keyed Row)))
        (rows_are : rows' ≡ with_place rows place (without_link at here)) where
      abbrev next : Head
      next = head_of (next_of (Some to))

      one_moved : AreMoved rows heads rows' (with_place heads place next) place (without_link at here) next
      one_moved = record { rows_are = rows_are; heads_are = refl }

      freed_chained : AreChained (without_link at here) next
      freed_chained = record {
        as_many = All-map (λ (keyed : Keyed Row). length keyed.row.links ≡ length keyed.row.values)
            (λ (keyed : Keyed Row). cond (keyed.row.object == at.object) (record { key = keyed.key; row = unlinked at keyed.row }) keyed) here
            (λ k d within. by (get_or here k d) ((get_or here k d).row.object == at.object) ((kept.chained place).as_many k d within));
        linked = subst (AreLinked (link_at (without_link at here))) (ap next_of was ∙ sym (back (next_of (Some to))))
            (linked_less (link_at here) (link_at (without_link at here)) at (ap is_linked (link_freed at here to was)) (link_kept at here) first_is);
      }
        where
          by : (keyed : Keyed Row) (b : Bool) → length keyed.row.links ≡ length keyed.row.values
              → length (cond b (record { key = keyed.key; row = unlinked at keyed.row }) keyed).row.links
              ≡ length (cond b (record { key = keyed.key; row = unlinked at keyed.row }) keyed).row.values
          by keyed true many = length-set keyed.row.links at.number link.Unmarked ∙ many
          by keyed false many = many

          back : (o : Option Property) → first_of (head_of o) ≡ o
          back None = refl
          back (Some p) = refl

      freed_sound : AreRows layouts (without_link at here)
      freed_sound = grind (
        arith,
        nat_tests,
        All-map (λ (keyed : Keyed Row). AreSound (shown layouts keyed.row))
            (λ (keyed : Keyed Row). cond (keyed.row.object == at.object) (record { key = keyed.key; row = unlinked at keyed.row }) keyed) here,
        in_rows,
      )

      freed_store : store_of layouts (without_link at here) ≡ store_of layouts here
      freed_store = search (rules, map_over_map, map_at)

      pub one_left : IsLeft layouts rows' (with_place heads place next) seen place
      one_left = record {
        kept = kept_moved kept view_is place in_rows one_moved
            (kept_with layouts rows kept.sound place rows' (without_link at here) rows_are freed_sound) freed_chained;
        shelves =
            after (limited rows heads.room) (shelves_seen view_is) place (limited rows' heads.room) (without_link at here) (store_at seen.shelves place)
            (limited_moved kept view_is place in_rows one_moved)
            (freed_store ∙ sym (store_there (limited rows heads.room) (shelves_seen view_is) place is_place))
            ∙ sym (unchanged_store seen.shelves place (store_at seen.shelves place) refl);
        others = beside_moved kept view_is place in_rows one_moved;
      }

      pub one_taken : IsTaken (marks_at seen.marks place) (marks_at (paired marks_of rows'.places (with_place heads place next).places) place) (told.One at)
      one_taken =
          let there = marks_there kept view_is place ∙ ap (marks_of here) is in (
            ap (λ (marks : Marks). marks.all) there,
            ap (λ (marks : Marks). among at marks.each) there ∙ first_marked here at (head.First at) first_is,
            here_moved kept view_is place in_rows one_moved
                ∙ ((λ i. record {
                  all = some (next_of (Some to)) i;
                  each = each_less here (without_link at here) (head.First at) next at (properties_freed at here) (ap is_linked (link_freed at here to was))
                      (link_kept at here) i;
                })
                ∙ ap {B = Marks} (λ (marks : Marks). record { all = false; each = filter (λ q. not (is_property at q)) marks.each }) (sym there)),
          )
        where
          some : (o : Option Property) → is_all (head_of o) ≡ false
          some None = refl
          some (Some p) = refl
