use Rattle.std.proofs.Common.{◌∙◌, ap, arith, sym, vec_len}
use Rattle.std.proofs.lemmas.Bool.{eqb-true}
use Rattle.binding_values.specs.Graph.{shown_at}
use Rattle.binding_graph.specs.LastShown.{joined}
use Rattle.binding_graph.proofs.LastShownLemmas.{dropped_shown, dropped_sound, nothing_shown, slot_emptied}
use Rattle.binding_graph.proofs.SlotLemmas.{none_there}
use Rattle.binding_graph.proofs.last_shown.remove_row.Goals as goal

pub index_mut-of-requires : goal.index_mut-of-requires
index_mut-of-requires c = omega (arith, (rw c.as_slice.ensures.value at c.in-Ok.ensures.place).within, c.args.objects.now.ok)

pub remove-requires : goal.remove-requires
remove-requires c = omega (arith, (rw c.as_slice.ensures.value at c.in-Ok.ensures.place).within, c.args.objects.now.ok)

pub returns-else-is_empty : goal.returns-else-is_empty
returns-else-is_empty c =
    let it = slot_emptied c.requires (rw c.as_slice.ensures.value at c.in-Ok.ensures.place) c.index_mut-of.result.now c.index_mut-of.ensures.value
    c.empty_slot.new.self c.empty_slot.ensures.object c.empty_slot.ensures.emptied in
    record { removed = it.shown; sound = it.sound }

pub returns-then-is_empty : goal.returns-then-is_empty
returns-then-is_empty c =
    let it = slot_emptied c.requires (rw c.as_slice.ensures.value at c.in-Ok.ensures.place) c.index_mut-of.result.now c.index_mut-of.ensures.value
    c.empty_slot.new.self c.empty_slot.ensures.object c.empty_slot.ensures.emptied in
    record {
      removed = λ q. ap (λ objects. shown_at (joined objects) q) c.remove.ensures.items ∙ dropped_shown it
          (omega (arith, eqb-true (vec_len c.empty_slot.new.self.slots) 0 (sym c.is_empty.ensures ∙ c.if-is_empty.true), c.empty_slot.new.self.slots.ok)) q;
      sound = rw c.remove.ensures.items (dropped_sound it);
    }

pub returns-in-Err-clause-removed : goal.returns-in-Err-clause-removed
returns-in-Err-clause-removed c = none_there (joined c.args.objects.now.items) c.args.at
    (nothing_shown c.requires (rw c.as_slice.ensures.value at c.in-Err.ensures.gap))
