-- What calls that take marks have told.
use Rattle.std.proofs.Common.{◌≡◌, ◌∙◌, ◌&&◌, ◌||◌, not, true, false, List, [], ◌∷◌, filter, sym, ap, arith, ⊎_elim, rules}
use Rattle.std.proofs.lemmas.Grind.{common_steps}
use Rattle.std.proofs.lemmas.Bool.{cases_Bool, or_left}
use Rattle.std.proofs.lemmas.Map.Views.{any-filter_same}
use Rattle.property_store.specs.declared.property.Property.{Property}
use Rattle.property_store.specs.declared.written.Written.TheVariants as told
use Rattle.property_store.specs.Laws.{DrainLaw}
use Rattle.property_store.specs.Marks.{Marks, has_marks, is_marked}
use Rattle.property_store.specs.Property.{among, is_property}
use Rattle.property_store.proofs.ChainLemmas.{same_property}

unmarked : (marks : Marks) → has_marks marks ≡ false → (q : Property) → is_marked marks q ≡ false
unmarked marks none q = grind (arith, common_steps)

-- those that are left are not the one that was taken
left_over : (at q : Property) (list : List Property) → among at list ≡ true
    → (is_property at q || among q (filter (λ p. not (is_property at p)) list)) ≡ among q list
left_over at q list stands =
    let left = any-filter_same (is_property q) (λ p. not (is_property at p)) (not (is_property at q))
    (λ p same. ap (λ r. not (is_property at r)) (sym (same_property q p same))) list in
    ⊎_elim
    (λ (here : is_property at q ≡ true). or_left (is_property at q) _ here ∙ sym (ap (λ r. among r list) (sym (same_property at q here)) ∙ stands))
    (λ (other : is_property at q ≡ false). ap (λ b. b || among q (filter (λ p. not (is_property at p)) list)) other
    ∙ (left ∙ ap (λ b. not b && among q list) other))
    (cases_Bool (is_property at q))

pub drain_law : DrainLaw
drain_law marks [] drains q = absurd drains
drain_law marks (told.None ∷ rest) drains q = search (rules, unmarked)
drain_law marks (told.One at ∷ rest) drains q =
    let taken = drains.1 in
    ap (λ b. is_property at q || b) (drain_law drains.0 rest drains.2 q ∙ ap (λ (m : Marks). is_marked m q) taken.2)
    ∙ (left_over at q marks.each taken.1 ∙ ap (λ b. b || among q marks.each) (sym taken.0))
drain_law marks (told.All ∷ rest) drains q = sym (or_left marks.all (among q marks.each) drains.1.0)
