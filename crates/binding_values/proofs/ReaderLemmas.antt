-- Which bound properties have read a property.
use Rattle.std.proofs.Common.{◌≡◌, ◌≢◌, ◌∙◌, ◌⊎◌, ℕ, ◌<◌, ◌≤◌, false, not, List, All, Contains, length, refl, ap, arith, ⊎_elim, take}
use Rattle.std.proofs.Common.{get_or, ◌+◌, ◌-◌, ◌==◌, ◌&&◌, true, inl, inr}
use Rattle.std.specs.Cmp.{IsTotalOrder}
use Rattle.std.specs.Ordering.{is_eq, nat_cmp, ordering_then}
use Rattle.std.specs.declared.cmp.Ordering.{Ordering}
use Rattle.std.specs.declared.cmp.Ordering.TheVariants.{Less, Equal, Greater}
use Rattle.std.specs.List.Sorted.{IsPartitionedBy}
use Rattle.std.proofs.lemmas.Bool.{both_ways, cases_Bool, cases_lt}
use Rattle.std.proofs.lemmas.Bool.Decides.{nat_tests}
use Rattle.std.proofs.lemmas.Cmp.{nat_cmp_total, on_total, ranked, then_total}
use Rattle.std.proofs.lemmas.List.Elements.{All-more, All-weaker}
use Rattle.std.proofs.lemmas.List.Sums.{length-filter, count_by-le-length}
use Rattle.shared_rows.specs.Links.{IsInOrder, with_link, without_link}
use Rattle.shared_rows.proofs.LinkedLemmas.{with_itself, with_others, without_from, without_others}
use Rattle.property_store.specs.declared.property.Property.{Property}
use Rattle.property_store.specs.Property.{is_property}
use Rattle.binding_values.proofs.FuelLemmas.{is_itself}
use Rattle.binding_values.specs.declared.readers.Edge.{Edge}
use Rattle.binding_values.specs.Readers.{AreAmong, AreFewer, IsStart, edge_cmp, edge_of, is_ahead, leads_from}

pub edge_total : IsTotalOrder edge_cmp
edge_total = then_total (on_total (λ (edge : Edge). edge.read_object) nat_cmp_total)
    (then_total (on_total (λ (edge : Edge). edge.read_number) nat_cmp_total)
    (then_total (on_total (λ (edge : Edge). edge.reader_object) nat_cmp_total) (on_total (λ (edge : Edge). edge.reader_number) nat_cmp_total)))

-- edges that stand in one place are one
pub edge_same : (x y : Edge) → edge_cmp x y ≡ Equal → x ≡ y
edge_same x y e = by (nat_cmp x.read_object y.read_object) (nat_cmp x.read_number y.read_number) (nat_cmp x.reader_object y.reader_object)
    (nat_cmp x.reader_number y.reader_number) refl refl refl refl e
  where
    by : (a b c d : Ordering) → a ≡ nat_cmp x.read_object y.read_object → b ≡ nat_cmp x.read_number y.read_number → c ≡ nat_cmp x.reader_object y.reader_object
        → d ≡ nat_cmp x.reader_number y.reader_number → ordering_then a (ordering_then b (ordering_then c d)) ≡ Equal → x ≡ y
    by Equal Equal Equal Equal a b c d e =
        let same_a : x.read_object ≡ y.read_object = ranked x.read_object y.read_object Equal a in
        let same_b : x.read_number ≡ y.read_number = ranked x.read_number y.read_number Equal b in
        let same_c : x.reader_object ≡ y.reader_object = ranked x.reader_object y.reader_object Equal c in
        let same_d : x.reader_number ≡ y.reader_number = ranked x.reader_number y.reader_number Equal d in
        ap (λ i. record { read_object = i; read_number = x.read_number; reader_object = x.reader_object; reader_number = x.reader_number }) same_a
        ∙ (ap (λ i. record { read_object = y.read_object; read_number = i; reader_object = x.reader_object; reader_number = x.reader_number }) same_b
        ∙ (ap (λ i. record { read_object = y.read_object; read_number = y.read_number; reader_object = i; reader_number = x.reader_number }) same_c
        ∙ ap (λ i. record { read_object = y.read_object; read_number = y.read_number; reader_object = y.reader_object; reader_number = i }) same_d))
    by Less b c d e f g h i = absurd (cc)
    by Greater b c d e f g h i = absurd (cc)
    by Equal Less c d e f g h i = absurd (cc)
    by Equal Greater c d e f g h i = absurd (cc)
    by Equal Equal Less d e f g h i = absurd (cc)
    by Equal Equal Greater d e f g h i = absurd (cc)
    by Equal Equal Equal Less e f g h i = absurd (cc)
    by Equal Equal Equal Greater e f g h i = absurd (cc)

-- an edge of a property that stands before another is none of that one

pub ahead_apart : (read : Property) (edge : Edge) → is_ahead read edge ≡ true → leads_from read edge ≡ true → ⊥
ahead_apart read edge ahead leads = grind (arith, nat_tests, ahead, leads)

pub leads_itself : (read reader : Property) → leads_from read (edge_of read reader) ≡ true
leads_itself read reader = by read.object read.number
  where
    by : (a b : ℕ) → ((a == a) && (b == b)) ≡ true
    by a b = grind (arith, nat_tests)

-- the edges stand by what they lead from

earlier_edge : (x y : Edge) → edge_cmp x y ≡ Less → (x.read_object < y.read_object) ⊎ ((x.read_object ≡ y.read_object) × (x.read_number ≤ y.read_number))
earlier_edge x y e = by (nat_cmp x.read_object y.read_object) (nat_cmp x.read_number y.read_number) refl refl e
  where
    by : (a b : Ordering) → a ≡ nat_cmp x.read_object y.read_object → b ≡ nat_cmp x.read_number y.read_number
        → ordering_then a (ordering_then b (ordering_then (nat_cmp x.reader_object y.reader_object) (nat_cmp x.reader_number y.reader_number))) ≡ Less
        → (x.read_object < y.read_object) ⊎ ((x.read_object ≡ y.read_object) × (x.read_number ≤ y.read_number))
    by Less b a_is b_is e = inl (ranked x.read_object y.read_object Less a_is)
    by Greater b a_is b_is e = absurd (cc)
    by Equal Less a_is b_is e = inr (
      ranked x.read_object y.read_object Equal a_is,
      (let less = ranked x.read_number y.read_number Less b_is in omega (arith, less)),
    )
    by Equal Equal a_is b_is e = inr (
      ranked x.read_object y.read_object Equal a_is,
      (let same = ranked x.read_number y.read_number Equal b_is in omega (arith, same)),
    )
    by Equal Greater a_is b_is e = absurd (cc)

ahead_before : (read : Property) (x y : Edge) → edge_cmp x y ≡ Less → is_ahead read y ≡ true → is_ahead read x ≡ true
ahead_before read x y less ahead = ⊎_elim
    (λ (object : x.read_object < y.read_object). grind (arith, nat_tests, ahead, object))
    (λ (both : (x.read_object ≡ y.read_object) × (x.read_number ≤ y.read_number)). grind (arith, nat_tests, ahead, both.0, both.1))
    (earlier_edge x y less)

module _ (edges : List Edge) (order : IsInOrder edge_cmp edges) (read : Property) where
  pub ahead_parted : IsPartitionedBy (is_ahead read) edges
  ahead_parted i j d upto within ahead = ⊎_elim
      (λ (front : i < j). ahead_before read (get_or edges i d) (get_or edges j d) (order i j d front within) ahead)
      (λ (at : j ≤ i). let same : i ≡ j = omega (arith, at, upto) in ap (λ n. is_ahead read (get_or edges n d)) same ∙ ahead)
      (cases_lt i j)

  pub start_at : (at : ℕ) → at ≤ length edges → (0 < at → (d : Edge) → is_ahead read (get_or edges (at - 1) d) ≡ true)
      → (at < length edges → (d : Edge) → is_ahead read (get_or edges at d) ≡ false) → IsStart edges read at
  start_at at within low high = (
    λ k d first upto. ahead_parted k (at - 1) d (omega (arith, upto)) (omega (arith, upto, within)) (low (omega (arith, upto)) d),
    λ k d from inside. ⊎_elim
        (λ (ahead : is_ahead read (get_or edges k d) ≡ true).
        absurd (both_ways _ (high (omega (arith, from, inside)) d) (ahead_parted at k d from inside ahead)))
        (λ (not_ahead : is_ahead read (get_or edges k d) ≡ false). not_ahead)
        (cases_Bool (is_ahead read (get_or edges k d))),
  )

-- more edges, and fewer

pub more_edges : (edges : List Edge) (edge : Edge) → AreAmong edges (with_link edge_cmp edges edge)
more_edges edges edge other there = with_others edge_total edge_same edges edge other there

pub edge_added : (edges : List Edge) (edge : Edge) → Contains (with_link edge_cmp edges edge) edge
edge_added edges edge = with_itself edge_total edge_same edges edge

-- an edge names its reader
pub other_edge : (read other reader q : Property) → is_property reader q ≡ false → edge_of other q ≢ edge_of read reader
other_edge read other reader q differs same =
    let object : q.object ≡ reader.object = ap (λ (edge : Edge). edge.reader_object) same in
    let number : q.number ≡ reader.number = ap (λ (edge : Edge). edge.reader_number) same in
    both_ways (is_property reader q) differs
    (ap (λ n. is_property reader (record { object = n; number = q.number })) object
    ∙ (ap (λ n. is_property reader (record { object = reader.object; number = n })) number ∙ is_itself reader))

pub fewer_links : (edges : List Edge) (edge : Edge) → length (without_link edge_cmp edges edge) ≤ length edges
fewer_links edges edge = omega (
  arith,
  length-filter (λ other. not (is_eq (edge_cmp other edge))) edges,
  count_by-le-length (λ other. not (is_eq (edge_cmp other edge))) edges,
)

pub edge_gone : (edges : List Edge) (read reader : Property) → AreFewer reader edges (without_link edge_cmp edges (edge_of read reader))
edge_gone edges read reader = record {
  within = λ edge there. (without_from edge_total edge_same edges (edge_of read reader) edge there).0;
  others = λ other q differs there. without_others edge_total edge_same edges (edge_of read reader) (edge_of other q) there
      (other_edge read other reader q differs);
  few = fewer_links edges (edge_of read reader);
}

pub fewer_then : (reader : Property) (a b c : List Edge) → AreFewer reader a b → AreFewer reader b c → AreFewer reader a c
fewer_then reader a b c ab bc = record {
  within = λ edge there. ab.within edge (bc.within edge there);
  others = λ read q differs there. bc.others read q differs (ab.others read q differs there);
  few = omega (arith, ab.few, bc.few);
}

-- one more that was read
pub added_more : (edges : List Edge) (reads : List Property) (at : ℕ) (default : Property) (reader : Property) → at < length reads
    → All (λ read. Contains edges (edge_of read reader)) (take at reads)
    → All (λ read. Contains (with_link edge_cmp edges (edge_of (get_or reads at default) reader)) (edge_of read reader)) (take (at + 1) reads)
added_more edges reads at default reader within all =
    let new : List Edge = with_link edge_cmp edges (edge_of (get_or reads at default) reader) in
    All-more (λ read. Contains new (edge_of read reader)) reads at default within
    (All-weaker (λ read. Contains edges (edge_of read reader)) (λ read. Contains new (edge_of read reader))
    (λ read there. more_edges edges (edge_of (get_or reads at default) reader) (edge_of read reader) there) (take at reads) all)
    (edge_added edges (edge_of (get_or reads at default) reader))
