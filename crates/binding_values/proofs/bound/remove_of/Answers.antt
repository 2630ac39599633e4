use Rattle.std.proofs.Common.{◌≡◌, ◌∙◌, ◌<◌, ◌==◌, ℕ, false, filter, length, not, ap, subst, sym, arith}
use Rattle.std.proofs.lemmas.Bool.Decides.{nat_tests}
use Rattle.std.proofs.lemmas.List.{get_or_default}
use Rattle.binding_values.specs.declared.binding.Binding.{Binding}
use Rattle.binding_values.specs.Sorted.{IsCountBefore, IsRising}
use Rattle.binding_values.proofs.BoundLemmas.{filter_removed, none_left, removed_count, removed_rising}
use Rattle.binding_values.proofs.bound.remove_of.Goals as goal

goes : (a o : ℕ) → a ≡ o → not (a == o) ≡ false
goes a o same = grind (arith, nat_tests)

stays : (a o : ℕ) → (a ≡ o → ⊥) → (a == o) ≡ false
stays a o differs = grind (arith, nat_tests)

pub rows-preserved : goal.rows-preserved
rows-preserved c =
    let rows = c.rows.rows.items in
    let place = c.count_before-place.result in
    let inside : place < length rows = omega (arith, c.rows-test.true, c.rows.rows.ok.0) in
    record {
      rising = subst (IsRising (λ (binding : Binding). binding.at)) (sym c.remove.ensures.items)
          (removed_rising rows c.args.object place c.rows.invariant.rising c.rows.invariant.count inside);
      count = subst (λ items. IsCountBefore (λ (binding : Binding). binding.at) items (record { object = c.args.object; number = 0 }) place)
          (sym c.remove.ensures.items)
          (removed_count rows c.args.object place c.rows.invariant.rising c.rows.invariant.count inside);
      same = ap (filter (λ (binding : Binding). not (binding.at.object == c.args.object))) c.remove.ensures.items
          ∙ (filter_removed (λ (binding : Binding). not (binding.at.object == c.args.object)) rows place c.index.result.now inside
          (ap (λ (binding : Binding). not (binding.at.object == c.args.object)) (sym c.index.ensures)
          ∙ goes c.index.result.now.at.object c.args.object c.if-index-object.true)
          ∙ c.rows.invariant.same);
    }

pub returns-else-index-object : goal.returns-else-index-object
returns-else-index-object c =
    sym (none_left c.rows.rows.items c.args.object c.count_before-place.result c.rows.invariant.rising c.rows.invariant.count
    (λ d lt. ap (λ (binding : Binding). binding.at.object == c.args.object)
    (get_or_default c.rows.rows.items c.count_before-place.result d c.index.result.now lt ∙ sym c.index.ensures)
    ∙ stays c.index.result.now.at.object c.args.object c.if-index-object.false))
    ∙ c.rows.invariant.same

pub returns-after-rows : goal.returns-after-rows
returns-after-rows c =
    sym (none_left c.rows.rows.items c.args.object c.count_before-place.result c.rows.invariant.rising c.rows.invariant.count
    (λ d lt. absurd (omega (arith, c.rows-test.false, c.rows.rows.ok.0, lt))))
    ∙ c.rows.invariant.same
