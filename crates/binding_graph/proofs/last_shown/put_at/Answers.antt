use Rattle.std.proofs.Common.{◌≡◌, ◌∙◌, ◌<◌, Some, ap, arith, cond, length, set, subst, sym}
use Rattle.binding_graph.specs.LastShown.{slot_at}
use Rattle.binding_graph.specs.declared.shown_object.ShownObject.{ShownObject}
use Rattle.std.proofs.Common.{◌==◌, ℕ, refl}
use Rattle.std.proofs.lemmas.List.{length-set}
use Rattle.std.proofs.lemmas.Option.{same_Some}
use Rattle.std.specs.Vec.{with_item}
use Rattle.property_store.specs.declared.property.Property.{Property}
use Rattle.variant_value.specs.Values.{IsOfKind}
use Rattle.binding_values.specs.declared.shown.Shown.{Shown}
use Rattle.binding_graph.proofs.LastShownLemmas.{AreWritten, slot_written}
use Rattle.binding_graph.proofs.SlotLemmas.{written_slot}
use Rattle.binding_graph.proofs.last_shown.put_at.Goals as goal

abbrev new_of : goal.Joined-index_mut → ShownObject
new_of c = record {
  object = c.index_mut-of.result.now.object;
  slots = with_item c.index_mut-of.result.now.slots c.args.row.at.number (Some c.args.row);
}

object_so : (c : goal.Joined-index_mut) → c.index_mut-of.result.now.object ≡ c.args.row.at.object
object_so c = ap (λ (of : ShownObject). of.object) c.index_mut-of.ensures.value
    ∙ ap (λ (p : Property). p.object) (c.requires.slot.object.is c.index_mut-of.result.now)

within_so : (c : goal.Joined-index_mut) → c.args.row.at.number < length c.index_mut-of.result.now.slots.items
within_so c = subst (λ (of : ShownObject). c.args.row.at.number < length of.slots.items) (sym c.index_mut-of.ensures.value)
    (c.requires.slot.number c.index_mut-of.result.now)

written_so : (c : goal.Joined-index_mut) → (k : ℕ) → slot_at (set c.index_mut-of.result.now.slots.items c.args.row.at.number (Some c.args.row)) k
    ≡ cond (k == c.args.row.at.number) (Some c.args.row) (slot_at c.index_mut-of.result.now.slots.items k)
written_so c = written_slot c.index_mut-of.result.now.slots.items c.args.row.at.number (Some c.args.row) (within_so c)

abbrev FitsIn : Property → Shown → Type 0
FitsIn at shown = (shown.at ≡ at) × IsOfKind shown.kind shown.value

fits_so : (c : goal.Joined-index_mut) → (shown : Shown) → Some c.args.row ≡ Some shown → FitsIn c.args.row.at shown
fits_so c shown is = subst (FitsIn c.args.row.at) (same_Some c.args.row shown is) (refl, c.requires.fits)

written_here : (c : goal.Joined-index_mut) → AreWritten c.args.objects.now.items c.args.row.at c.args.place (Some c.args.row)
    c.index_mut-of.result.now (new_of c)
written_here c = slot_written c.requires.sound c.requires.slot.object c.index_mut-of.result.now c.index_mut-of.ensures.value c.args.row.at.number
    (Some c.args.row) (fits_so c) (new_of c) (object_so c) (written_so c)

pub returns-clause-put : goal.returns-clause-put
returns-clause-put c = (written_here c).shown

pub returns-clause-sound : goal.returns-clause-sound
returns-clause-sound c = (written_here c).sound

pub returns-clause-as_many : goal.returns-clause-as_many
returns-clause-as_many c = (written_here c).as_many
    (omega (arith, length-set c.index_mut-of.result.now.slots.items c.args.row.at.number (Some c.args.row)))
