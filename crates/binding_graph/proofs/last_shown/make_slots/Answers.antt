use Rattle.std.proofs.Common.{◌≡◌, ◌∙◌, ◌<◌, ◌≤◌, ap, arith, get_or, subst, sym, ⊎_elim}
use Rattle.std.proofs.lemmas.Bool.{cases_lt}
use Rattle.std.proofs.lemmas.List.{get_or_default}
use Rattle.binding_values.specs.declared.shown.Shown.{Shown}
use Rattle.binding_graph.specs.LastShown.{slots_of}
use Rattle.binding_graph.proofs.LastShownLemmas.{same_twice, slot_has}
use Rattle.binding_graph.proofs.last_shown.make_slots.Goals as goal

pub loop-row-preserved : goal.loop-row-preserved
loop-row-preserved c = record {
  same = same_twice c.args.objects.now.items c.loop-row.objects.items c.make_slot.new.objects.items c.loop-row.invariant.same c.make_slot.ensures.same;
  slots = λ k d low high. ⊎_elim
      (λ (before : k < c.loop-row.row-index). omega (
        arith,
        c.loop-row.invariant.slots k d low before,
        c.make_slot.ensures.same.as_many (get_or c.args.rows.now k d).at.object,
      ))
      (λ (level : c.loop-row.row-index ≤ k).
      let same : k ≡ c.loop-row.row-index = omega (arith, level, high) in
      let it : get_or c.args.rows.now k d ≡ c.row-item.result = ap (λ n. get_or c.args.rows.now n d) same
      ∙ (get_or_default c.args.rows.now c.loop-row.row-index d c.row-item.result c.loop-row-test.true ∙ sym c.row-item.is) in
      subst (λ (row : Shown). row.at.number < slots_of c.make_slot.new.objects.items row.at.object) (sym it)
      (slot_has c.make_slot.new.objects.items c.make_slot.ensures.same.sound c.in_ok-make_slot.ensures.slot))
      (cases_lt k c.loop-row.row-index);
}
