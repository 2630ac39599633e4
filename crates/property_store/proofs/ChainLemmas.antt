-- Properties that are linked.
use Rattle.std.proofs.Common.{◌≡◌, ◌∙◌, true, false, List, [], ◌∷◌, Option, Some, None, refl, sym, ap, subst, ⊎_elim, arith, rules}
use Rattle.std.proofs.lemmas.Grind.{common_steps}
use Rattle.std.proofs.lemmas.Bool.{and_parts, both_ways, cases_Bool, false_from_ne_true, or_cases, or_left, or_right}
use Rattle.property_store.specs.declared.link.Link.{Link}
use Rattle.property_store.specs.declared.property.Property.{Property}
use Rattle.property_store.specs.Property.{among, is_property}
use Rattle.property_store.specs.Chain.{AreLinked, IsChain, is_linked, link_to, next_of}

-- which property is meant
pub same_property : (p q : Property) → is_property p q ≡ true → p ≡ q
same_property p q is = search (rules, and_parts)

pub itself : (p : Property) → is_property p p ≡ true
itself p = grind (arith, common_steps)

pub turned : (p q : Property) → is_property p q ≡ false → is_property q p ≡ false
turned p q differ = grind (arith, common_steps)

linked_end : (link : Option Property) → is_linked (Some (link_to link)) ≡ true
linked_end None = refl
linked_end (Some at) = refl

next_end : (link : Option Property) → next_of (Some (link_to link)) ≡ link
next_end None = refl
next_end (Some at) = refl

-- what stands in the chain is linked
chain_linked : (at : Property → Option Link) (first : Option Property) (list : List Property) → IsChain at first list → (q : Property) → among q list ≡ true
    → is_linked (at q) ≡ true
chain_linked at first [] chain q stands = absurd (both_ways false refl stands)
chain_linked at first (property ∷ rest) chain q stands = ⊎_elim
    (λ here. ap (λ p. is_linked (at p)) (same_property q property here) ∙ chain.1)
    (chain_linked at (next_of (at property)) rest chain.3 q)
    (or_cases (is_property q property) (among q rest) stands)

-- a chain is that of each function that gives its properties these links
chain_kept : (at after : Property → Option Link) (first : Option Property) (list : List Property) → ((q : Property) → among q list ≡ true → after q ≡ at q)
    → IsChain at first list → IsChain after first list
chain_kept at after first [] same chain = chain
chain_kept at after first (property ∷ rest) same chain =
    let here = same property (or_left (is_property property property) (among property rest) (itself property)) in (
      chain.0,
      ap is_linked here ∙ chain.1,
      chain.2,
      subst (λ next. IsChain after next rest) (sym (ap next_of here))
          (chain_kept at after (next_of (at property)) rest (λ q stands. same q (or_right (is_property q property) (among q rest) stands)) chain.3),
    )

-- links that are not of the chain are of no matter
pub linked_kept : (at after : Property → Option Link) (first : Option Property)
    → ((q : Property) → is_linked (at q) ≡ true → after q ≡ at q) → ((q : Property) → is_linked (after q) ≡ true → is_linked (at q) ≡ true)
    → AreLinked at first → AreLinked after first
linked_kept at after first same no_more linked = record {
  list = linked.list;
  chain = chain_kept at after first linked.list (λ q stands. same q (chain_linked at first linked.list linked.chain q stands)) linked.chain;
  all = λ q is. linked.all q (no_more q is);
}

pub linked_same : (at after : Property → Option Link) (first : Option Property) → ((q : Property) → after q ≡ at q) → AreLinked at first → AreLinked after first
linked_same at after first same linked = grind (arith, common_steps)

-- one more property is linked
pub linked_more : (at after : Property → Option Link) (first : Option Property) (p : Property)
    → is_linked (at p) ≡ false → after p ≡ Some (link_to first) → ((q : Property) → is_property p q ≡ false → after q ≡ at q)
    → AreLinked at first → AreLinked after (Some p)
linked_more at after first p off here others linked =
    let apart : among p linked.list ≡ false = false_from_ne_true (among p linked.list)
    (λ stands. both_ways (is_linked (at p)) off (chain_linked at first linked.list linked.chain p stands)) in
    let differ : (q : Property) → among q linked.list ≡ true → is_property p q ≡ false =
    λ q stands. false_from_ne_true (is_property p q)
    (λ same. both_ways (among p linked.list) apart (ap (λ r. among r linked.list) (same_property p q same) ∙ stands)) in
    record {
      list = p ∷ linked.list;
      chain = (
        refl,
        ap is_linked here ∙ linked_end first,
        apart,
        subst (λ next. IsChain after next linked.list) (sym (ap next_of here ∙ next_end first))
            (chain_kept at after first linked.list (λ q stands. others q (differ q stands)) linked.chain),
      );
      all = λ q is. ⊎_elim
          (λ same. or_left (is_property q p) (among q linked.list) (ap (λ r. is_property r p) (sym (same_property p q same)) ∙ itself p))
          (λ other. or_right (is_property q p) (among q linked.list) (linked.all q (ap is_linked (sym (others q other)) ∙ is)))
          (cases_Bool (is_property p q));
    }

-- the first one is taken
pub linked_less : (at after : Property → Option Link) (p : Property)
    → is_linked (after p) ≡ false → ((q : Property) → is_property p q ≡ false → after q ≡ at q)
    → AreLinked at (Some p) → AreLinked after (next_of (at p))
linked_less at after p gone others linked = by linked.list linked.chain linked.all
  where
    by : (list : List Property) → IsChain at (Some p) list → ((q : Property) → is_linked (at q) ≡ true → among q list ≡ true) → AreLinked after (next_of (at p))
    by [] chain all = absurd (let never = chain in cc)
    by (property ∷ rest) chain all =
        let same : p ≡ property = (let e = chain.0 in cc) in
        let apart : among p rest ≡ false = ap (λ r. among r rest) same ∙ chain.2 in
        record {
          list = rest;
          chain = chain_kept at after (next_of (at p)) rest
              (λ q stands. others q (false_from_ne_true (is_property p q)
              (λ is. both_ways (among p rest) apart (ap (λ r. among r rest) (same_property p q is) ∙ stands))))
              (subst (λ r. IsChain at (next_of (at r)) rest) (sym same) chain.3);
          all = λ q is. ⊎_elim
              (λ here. absurd (both_ways (is_linked (after p)) gone (ap (λ r. is_linked (after r)) (same_property p q here) ∙ is)))
              (λ other. ⊎_elim
              (λ first. absurd (both_ways (is_property q p) (turned p q other) (ap (is_property q) same ∙ first)))
              (λ later. later)
              (or_cases (is_property q property) (among q rest) (all q (ap is_linked (sym (others q other)) ∙ is))))
              (cases_Bool (is_property p q));
        }

pub first_linked : (at : Property → Option Link) (p : Property) → AreLinked at (Some p) → is_linked (at p) ≡ true
first_linked at p linked = by linked.list linked.chain
  where
    by : (list : List Property) → IsChain at (Some p) list → is_linked (at p) ≡ true
    by [] chain = absurd (let never = chain in cc)
    by (property ∷ rest) chain = (let e = chain.0 in ap (λ r. is_linked (at r)) (let same : p ≡ property = cc in same)) ∙ chain.1

pub nothing_linked : (at : Property → Option Link) → AreLinked at None → (q : Property) → is_linked (at q) ≡ false
nothing_linked at linked q = false_from_ne_true (is_linked (at q)) (λ is. by linked.list linked.chain (linked.all q is))
  where
    by : (list : List Property) → IsChain at None list → among q list ≡ true → ⊥
    by [] chain stands = both_ways false refl stands
    by (property ∷ rest) chain stands = absurd (let e = chain.0 in cc)

pub linked_nothing : (at : Property → Option Link) → ((q : Property) → is_linked (at q) ≡ false) → AreLinked at None
linked_nothing at none = search (rules, both_ways)
