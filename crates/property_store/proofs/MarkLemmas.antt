-- The marks of a place.
use Rattle.std.proofs.lemmas.Option.{slice_get_within}
use Rattle.std.proofs.Common.{◌≡◌, ◌∙◌, ℕ, ◌<◌, ◌≤◌, ◌==◌, ◌&&◌, ◌||◌, nat_lt, not, Bool, true, false, cond, List, [], ◌∷◌, Option, Some, None, filter, length}
use Rattle.std.proofs.Common.{refl, sym, ap, arith, ⊎_elim, rules}
use Rattle.std.proofs.lemmas.Grind.{common_steps}
use Rattle.std.proofs.lemmas.Bool.Decides.{nat_tests}
use Rattle.std.specs.List.{slice_get}
use Rattle.std.proofs.lemmas.Bool.{and_from, both_ways, cases_Bool, eq-eqb, eqb-true, lt-ltb, or_left, or_right}
use Rattle.std.proofs.lemmas.List.Elements.{filter_agree}
use Rattle.std.proofs.lemmas.List.Folds.{list_any-append, list_any_at}
use Rattle.std.proofs.lemmas.List.FromFn.{get_or-map-range_with_len, length-map-range_with_len}
use Rattle.std.proofs.lemmas.Map.Views.{any-filter_same}
use Rattle.shared_rows.specs.Rows.{Keyed}
use Rattle.property_store.specs.declared.link.Head.{Head}
use Rattle.property_store.specs.declared.link.Head.TheVariants as head
use Rattle.property_store.specs.declared.link.Link.{Link}
use Rattle.property_store.specs.declared.property.Property.{Property}
use Rattle.property_store.specs.declared.row.Row.{Row}
use Rattle.property_store.specs.Property.{among, is_property}
use Rattle.property_store.specs.Chain.{AreLinked, first_of, is_all, is_linked}
use Rattle.property_store.specs.Inside.{link_at, marks_of, numbers_of, properties_in}
use Rattle.property_store.specs.Marks.{has_marks, is_marked}
use Rattle.property_store.proofs.ChainLemmas.{first_linked, nothing_linked, same_property}

-- a property that has a link is one of the properties
number_stands : (object count : ℕ) (q : Property) → q.object ≡ object → q.number < count → among q (numbers_of object count) ≡ true
number_stands object count q same within =
    grind (
      arith,
      nat_tests,
      list_any_at (is_property q) (numbers_of object count) q.number q,
      length-map-range_with_len,
      get_or-map-range_with_len,
      and_from (q.object == object) (q.number == q.number) (eq-eqb _ _ same) (eq-eqb q.number q.number refl),
      q.object,
      q.number,
      eq-eqb _ _ same,
      eq-eqb q.number q.number refl,
    )

property_stands : (rows : List (Keyed Row)) (q : Property) → is_linked (link_at rows q) ≡ true → among q (properties_in rows) ≡ true
property_stands [] q is = absurd (both_ways false refl is)
property_stands (first ∷ rest) q is =
    let split = list_any-append (is_property q) (numbers_of first.row.object (length first.row.links)) (properties_in rest) in
    split ∙ ⊎_elim
    (λ (here : (first.row.object == q.object) ≡ true).
    let linked : is_linked (slice_get first.row.links q.number) ≡ true = rw here at is in
    or_left _ (among q (properties_in rest))
    (number_stands first.row.object (length first.row.links) q (sym (eqb-true _ _ here)) (has first.row.links q.number linked)))
    (λ (other : (first.row.object == q.object) ≡ false).
    let later : is_linked (link_at rest q) ≡ true = rw other at is in
    or_right (among q (numbers_of first.row.object (length first.row.links))) _ (property_stands rest q later))
    (cases_Bool (first.row.object == q.object))
  where
    has : (links : List Link) (number : ℕ) → is_linked (slice_get links number) ≡ true → number < length links
    has links number linked = by (slice_get links number) refl linked
      where
        by : (o : Option Link) → slice_get links number ≡ o → is_linked o ≡ true → number < length links
        by None e linked = absurd (both_ways false refl linked)
        by (Some link) e linked = slice_get_within links number link e

-- a property is marked where it is linked
pub among_linked : (rows : List (Keyed Row)) (first : Head) (q : Property) → among q (marks_of rows first).each ≡ is_linked (link_at rows q)
among_linked rows first q = grind (
  arith,
  nat_tests,
  any-filter_same (is_property q) (λ p. is_linked (link_at rows p)) (is_linked (link_at rows q))
      (λ p same. ap (λ r. is_linked (link_at rows r)) (sym (same_property q p same))) (properties_in rows),
  same_property q,
  property_stands rows q,
)

pub marked_linked : (rows : List (Keyed Row)) (first : Head) (q : Property) → is_marked (marks_of rows first) q ≡ (is_all first || is_linked (link_at rows q))
marked_linked rows first q = ap (λ b. is_all first || b) (among_linked rows first q)

-- the marks where links change
filter_twice : {X : Type 0} (f g : X → Bool) (xs : List X) → filter (λ x. g x && f x) xs ≡ filter g (filter f xs)
filter_twice f g [] = refl
filter_twice f g (x ∷ xs) = search (rules, f x, g x, filter_twice f g xs)

pub each_same : (rows after : List (Keyed Row)) (first : Head) → properties_in after ≡ properties_in rows → ((q : Property) → link_at after q ≡ link_at rows q)
    → (marks_of after first).each ≡ (marks_of rows first).each
each_same rows after first same links = grind (arith, common_steps)

pub each_less : (rows after : List (Keyed Row)) (first then : Head) (p : Property) → properties_in after ≡ properties_in rows
    → is_linked (link_at after p) ≡ false → ((q : Property) → is_property p q ≡ false → link_at after q ≡ link_at rows q)
    → (marks_of after then).each ≡ filter (λ q. not (is_property p q)) (marks_of rows first).each
each_less rows after first then p same gone others =
    grind (
      arith,
      nat_tests,
      filter_agree (λ q. is_linked (link_at after q)) (λ q. not (is_property p q) && is_linked (link_at rows q)),
      filter_twice (λ q. is_linked (link_at rows q)) (λ q. not (is_property p q)) (properties_in rows),
    )

pub each_none : (rows : List (Keyed Row)) (first : Head) → ((q : Property) → is_linked (link_at rows q) ≡ false) → (marks_of rows first).each ≡ []
each_none rows first none = by (properties_in rows)
  where
    by : (list : List Property) → filter (λ q. is_linked (link_at rows q)) list ≡ []
    by [] = refl
    by (p ∷ list) = rw (none p) (by list)

-- what the head tells
pub none_marked : (rows : List (Keyed Row)) → AreLinked (link_at rows) None → (first : Head) → (marks_of rows first).each ≡ []
none_marked rows linked first = each_none rows first (nothing_linked (link_at rows) linked)

pub first_marked : (rows : List (Keyed Row)) (p : Property) (first : Head) → AreLinked (link_at rows) (Some p) → among p (marks_of rows first).each ≡ true
first_marked rows p first linked = among_linked rows first p ∙ first_linked (link_at rows) p linked

some_stands : (p : Property) (list : List Property) → among p list ≡ true → nat_lt 0 (length list) ≡ true
some_stands p [] stands = absurd (both_ways false refl stands)
some_stands p (q ∷ list) stands = lt-ltb _ _ (omega arith)

abbrev pub is_some_head : Head → Bool
is_some_head head.None = false
is_some_head (head.First at) = true
is_some_head head.All = true

pub head_tells : (rows : List (Keyed Row)) (first : Head) → AreLinked (link_at rows) (first_of first) → has_marks (marks_of rows first) ≡ is_some_head first
head_tells rows head.None linked = search (rules, none_marked)
head_tells rows (head.First at) linked = some_stands at (marks_of rows (head.First at)).each (first_marked rows at (head.First at) linked)
head_tells rows head.All linked = refl

-- taking a mark leaves fewer
pub fewer : (p : Property) (list : List Property) → among p list ≡ true → length (filter (λ q. not (is_property p q)) list) < length list
fewer p [] stands = absurd (both_ways false refl stands)
fewer p (q ∷ list) stands = ⊎_elim
    (λ (here : is_property p q ≡ true). rw here (omega (arith, no_more list)))
    (λ (other : is_property p q ≡ false).
    let later : among p list ≡ true = rw other at stands in
    let rest = fewer p list later in
    rw other (omega (arith, rest)))
    (cases_Bool (is_property p q))
  where
    no_more : (list : List Property) → length (filter (λ q. not (is_property p q)) list) ≤ length list
    no_more [] = omega arith
    no_more (q ∷ list) = by (not (is_property p q)) (no_more list)
      where
        by : (b : Bool) → length (filter (λ q. not (is_property p q)) list) ≤ length list
            → length (cond b (q ∷ filter (λ q. not (is_property p q)) list) (filter (λ q. not (is_property p q)) list)) ≤ length (q ∷ list)
        by true less = omega (arith, less)
        by false less = omega (arith, less)
