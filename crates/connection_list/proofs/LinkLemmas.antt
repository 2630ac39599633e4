-- Links by object, source and rank.
use Rattle.std.proofs.Common.{◌≡◌, ◌≢◌, ◌∙◌, ℕ, ◌<◌, ◌≤◌, true, false, not, List, Option, Some, None, get_or, refl, sym, ap, arith, ⊎_elim}
use Rattle.std.proofs.Math.Bool.{not-not}
use Rattle.std.specs.Cmp.{IsTotalOrder}
use Rattle.std.specs.List.{All, Any}
use Rattle.std.specs.List.Sorted.{IsPartitionedBy}
use Rattle.std.specs.Ordering.{is_lt, nat_cmp, ordering_reverse}
use Rattle.std.specs.declared.cmp.Ordering.TheVariants.{Less, Equal}
use Rattle.std.proofs.lemmas.Bool.{cases_eq}
use Rattle.std.proofs.lemmas.Bool.Decides.{nat_tests}
use Rattle.std.proofs.lemmas.Cmp.{nat_cmp_total, on_total, ranked, then_total}
use Rattle.shared_rows.specs.Links.{IsInOrder, first_from}
use Rattle.shared_rows.proofs.ForCallers.{parted_by, then_equal}
use Rattle.shared_rows.proofs.LinkedLemmas.{all_from, any_of, first_none, first_some}
use Rattle.connection_list.specs.declared.link.Link.{Link}
use Rattle.connection_list.specs.declared.mark.Marks.{Marks}
use Rattle.connection_list.specs.Routes.{is_before, is_past, link_cmp}

pub link_total : IsTotalOrder link_cmp
link_total = then_total (on_total (λ (link : Link). link.object) nat_cmp_total)
    (then_total (on_total (λ (link : Link). link.source) nat_cmp_total)
    (then_total (on_total (λ (link : Link). link.rank) nat_cmp_total) (on_total (λ (link : Link). link.key) nat_cmp_total)))

-- links that stand in one place are one
pub link_same : (x y : Link) → link_cmp x y ≡ Equal → x ≡ y
link_same x y e =
    let object = then_equal (nat_cmp x.object y.object) _ e in
    let source = then_equal (nat_cmp x.source y.source) _ object.1 in
    let rank = then_equal (nat_cmp x.rank y.rank) _ source.1 in
    let same_object : x.object ≡ y.object = ranked x.object y.object Equal (sym object.0) in
    let same_source : x.source ≡ y.source = ranked x.source y.source Equal (sym source.0) in
    let same_rank : x.rank ≡ y.rank = ranked x.rank y.rank Equal (sym rank.0) in
    let same_key : x.key ≡ y.key = ranked x.key y.key Equal (sym rank.1) in
    λ i. record { object = same_object i; source = same_source i; rank = same_rank i; key = same_key i }

-- where a search begins
abbrev pub from : ℕ → ℕ → ℕ → Link
from object source rank = record { object = object; source = source; rank = rank; key = 0 }

-- what it says in numbers that the first link is not below the second
pub record IsAtLeast (x y : Link) : Type 0 where
  pub object : y.object ≤ x.object
  pub source : y.object ≡ x.object → y.source ≤ x.source
  pub rank : y.object ≡ x.object → y.source ≡ x.source → y.rank ≤ x.rank

pub at_least : (x y : Link) → is_lt (link_cmp x y) ≡ false → IsAtLeast x y
at_least x y e = record {
  object = grind (arith, nat_tests);
  source = λ same. grind (arith, nat_tests);
  rank = λ same other. grind (arith, nat_tests);
}

pub not_below : (x : Link) (rank : ℕ) → rank ≤ x.rank → is_lt (link_cmp x (from x.object x.source rank)) ≡ false
not_below x rank within = grind (arith, nat_tests)

-- no link of an object is below the first that it can have
pub not_below_first : (x : Link) → is_lt (link_cmp x (from x.object 0 0)) ≡ false
not_below_first x = grind (arith, nat_tests)

-- what it says in numbers that one link stands before another
before_other : (x y : Link) → link_cmp x y ≡ Less → IsAtLeast y x
before_other x y less = at_least y x (ap is_lt (link_total.antisymm y x ∙ ap ordering_reverse less))

-- a link that is not above another one has a lower object, a lower source, or at most its rank
by_order : {G : Type 0} (x y : Link) → IsAtLeast y x → (x.object < y.object → G) → (x.object ≡ y.object → x.source < y.source → G)
    → (x.object ≡ y.object → x.source ≡ y.source → x.rank ≤ y.rank → G) → G
by_order x y least by_object by_source by_rank = ⊎_elim
    (λ same. ⊎_elim
    (λ also. by_rank same also (least.rank same also))
    (λ differs. by_source same (omega (arith, least.source same)))
    (cases_eq x.source y.source))
    (λ differs. by_object (omega arith))
    (cases_eq x.object y.object)

-- what stands before a link that is before a group is before it too, and what stands behind one that is behind it
module _ (object : ℕ) where
  before_on : (source : Option ℕ) (marks : Option Marks) (x y : Link) → IsAtLeast y x → is_before object source marks y ≡ true
      → is_before object source marks x ≡ true
  before_on None marks x y least before = grind (arith, nat_tests)
  before_on (Some source) None x y least before = by_order x y least (λ less. grind (arith, nat_tests))
      (λ same less. grind (arith, nat_tests)) (λ same also upto. grind (arith, nat_tests))
  before_on (Some source) (Some marks) x y least before = by_order x y least (λ less. grind (arith, nat_tests))
      (λ same less. grind (arith, nat_tests)) (λ same also upto. grind (arith, nat_tests))

  past_on : (source : Option ℕ) (marks : Option Marks) (x y : Link) → IsAtLeast y x → is_past object source marks y ≡ false
      → is_past object source marks x ≡ false
  past_on None marks x y least past = grind (arith, nat_tests)
  past_on (Some source) None x y least past = by_order x y least (λ less. grind (arith, nat_tests))
      (λ same less. grind (arith, nat_tests)) (λ same also upto. grind (arith, nat_tests))
  past_on (Some source) (Some marks) x y least past = by_order x y least (λ less. grind (arith, nat_tests))
      (λ same less. grind (arith, nat_tests)) (λ same also upto. grind (arith, nat_tests))

  -- a link that is neither before a group nor behind it has its object
  pub inside_same : (source : Option ℕ) (marks : Option Marks) (link : Link) → is_before object source marks link ≡ false
      → not (is_past object source marks link) ≡ true → link.object ≡ object
  inside_same None marks link before past = grind (arith, nat_tests)
  inside_same (Some source) None link before past = grind (arith, nat_tests)
  inside_same (Some source) (Some marks) link before past = grind (arith, nat_tests)

module _ (links : List Link) (order : IsInOrder link_cmp links) (object : ℕ) (source : Option ℕ) (marks : Option Marks) where
  pub before_parted : IsPartitionedBy (is_before object source marks) links
  before_parted = parted_by (is_before object source marks) links (λ i j d lt within. before_on object source marks (get_or links i d) (get_or links j d)
      (before_other (get_or links i d) (get_or links j d) (order i j d lt within)))

  pub past_parted : IsPartitionedBy (λ link. not (is_past object source marks link)) links
  past_parted = parted_by (λ link. not (is_past object source marks link)) links (λ i j d lt within kept.
      ap not (past_on object source marks (get_or links i d) (get_or links j d)
      (before_other (get_or links i d) (get_or links j d) (order i j d lt within))
      (sym (not-not (is_past object source marks (get_or links j d))) ∙ ap not kept)))

-- a link with a smaller rank is below another one, if the link after it has that one's object and source
pub below_next : (before there link : Link) → link_cmp before there ≡ Less → there.object ≡ link.object → there.source ≡ link.source
    → before.rank < link.rank → is_lt (link_cmp before link) ≡ true
below_next before there link less object source rank = by_order before there (before_other before there less)
    (λ low. grind (arith, nat_tests, object))
    (λ same low. grind (arith, nat_tests, object, source))
    (λ same also upto. grind (arith, nat_tests, object, source, rank))

-- a link of the same object and source is not below one with a smaller rank or the same
pub not_below_other : (there link : Link) → there.object ≡ link.object → there.source ≡ link.source → link.rank ≤ there.rank → link.key ≤ there.key
    → is_lt (link_cmp there link) ≡ false
not_below_other there link object source rank key = grind (arith, nat_tests, object, source, rank)

module _ (links : List Link) (order : IsInOrder link_cmp links) (object : ℕ) where
  -- where no link is at least the first of an object, none is the object's
  pub none_of : first_from link_cmp links (from object 0 0) ≡ None → All (λ link. link.object ≢ object) links
  none_of none = all_from (λ link. link.object ≢ object) links (λ link there same.
      let below = first_none link_total link_same links (from object 0 0) none link there in
      let above = ap (λ o. is_lt (link_cmp link (from o 0 0))) (sym same) ∙ not_below_first link in
      absurd (cc (below, above)))

  -- nor where the least of those is another's
  pub others_of : (least : Link) → first_from link_cmp links (from object 0 0) ≡ Some least → least.object ≢ object → All (λ link. link.object ≢ object) links
  others_of least found differs = all_from (λ link. link.object ≢ object) links (λ link there same.
      let first = first_some link_total link_same links order (from object 0 0) least found in
      let low = at_least least (from object 0 0) first.1 in
      let above = at_least link least (first.2 link there (ap (λ o. is_lt (link_cmp link (from o 0 0))) (sym same) ∙ not_below_first link)) in
      differs (omega arith))

  -- else that one leads to a connection of the object
  pub one_of : (least : Link) → first_from link_cmp links (from object 0 0) ≡ Some least → least.object ≡ object
      → Any (λ link. (link.object ≡ object) × (link.key ≡ least.key)) links
  one_of least found same = any_of (λ link. (link.object ≡ object) × (link.key ≡ least.key)) links least
      (first_some link_total link_same links order (from object 0 0) least found).0 (same, refl)
