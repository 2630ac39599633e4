use Rattle.std.proofs.Common.{◌∙◌, ap, arith, not, refl, sym}
use Rattle.std.specs.Option.{option_map_or}
use Rattle.variant_value.specs.Values.{is_same}
use Rattle.binding_values.specs.Graph.{fresh}
use Rattle.binding_graph.specs.LastShown.{slot_at}
use Rattle.binding_graph.specs.declared.shown_object.ShownObject.{ShownObject}
use Rattle.shared_rows.proofs.ForCallers.{on_err}
use Rattle.binding_graph.proofs.LastShownLemmas.{joined_same, joined_shown, shown_there}
use Rattle.binding_graph.proofs.last_shown.LastShown.put.Goals as goal

pub returns-in_err-place-clause-err : goal.returns-in_err-place-clause-err
returns-in_err-place-clause-err c = rw (← c.self.view_is)
    (on_err c.from_residual.result (joined_same c.make_slot.new.objects.items c.self.inside.objects.items c.make_slot.ensures.same.sound
    c.self.invariant c.make_slot.ensures.same.same))

pub index-requires : goal.index-requires
index-requires c = omega (arith, c.in_ok-place.ensures.slot.object.within)

pub returns-clause-told : goal.returns-clause-told
returns-clause-told c = rw (← c.self.view_is) (ap not (c.is_value_before-is_change.ensures ∙ ap (λ previous. is_same (option_map_or (λ row. row) previous
    (fresh c.args.row.at c.args.row.kind)).value c.args.row.value)
    (c.shown-previous.ensures ∙ (ap (λ (of : ShownObject). slot_at of.slots.items c.args.row.at.number) c.index.ensures
    ∙ (sym (shown_there c.make_slot.ensures.same.sound c.in_ok-place.ensures.slot.object c.index.result.now c.args.row.at refl)
    ∙ c.make_slot.ensures.same.same c.args.row.at)))))

pub returns-clause-sound : goal.returns-clause-sound
returns-clause-sound c = joined_shown c.put_at.new.objects.items c.put_at.ensures.sound
