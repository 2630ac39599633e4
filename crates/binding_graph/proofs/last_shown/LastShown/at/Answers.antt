use Rattle.std.proofs.Common.{◌∙◌, ap, arith, refl, sym}
use Rattle.binding_graph.specs.LastShown.{slot_at}
use Rattle.binding_graph.specs.declared.shown_object.ShownObject.{ShownObject}
use Rattle.binding_graph.proofs.LastShownLemmas.{nothing_shown, shown_there}
use Rattle.binding_graph.proofs.last_shown.LastShown.at.Goals as goal

pub index-requires : goal.index-requires
index-requires c = omega (arith, (rw c.as_slice.ensures.value at c.in-Ok.ensures.place).within, c.self.inside.objects.ok)

pub returns-in-Ok : goal.returns-in-Ok
returns-in-Ok c = rw (← c.self.view_is) (c.shown.ensures ∙ (ap (λ (of : ShownObject). slot_at of.slots.items c.args.at.number) c.index.ensures
    ∙ sym (shown_there c.self.invariant (rw c.as_slice.ensures.value at c.in-Ok.ensures.place) c.index.result.now c.args.at refl)))

pub returns-in-Err : goal.returns-in-Err
returns-in-Err c = rw (← c.self.view_is) (sym (nothing_shown c.self.invariant (rw c.as_slice.ensures.value at c.in-Err.ensures.gap) c.args.at refl))
