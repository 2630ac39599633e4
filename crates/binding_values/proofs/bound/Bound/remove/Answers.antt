use Rattle.std.proofs.Common.{◌∙◌, not, subst, sym, arith}
use Rattle.binding_values.specs.declared.binding.Binding.{Binding}
use Rattle.binding_values.specs.Binds.{AreBindings}
use Rattle.property_store.specs.Property.{is_property}
use Rattle.binding_values.proofs.BoundLemmas.{fewer_sound}
use Rattle.binding_values.proofs.SortedLemmas.{without_none, without_row}
use Rattle.binding_values.proofs.bound.Bound.remove.Goals as goal

pub remove-requires : goal.remove-requires
remove-requires c = omega (arith, c.self.inside.rows.ok.0, (rw c.as_slice.ensures.value at c.in-Ok.ensures.row).within)

pub invariant_of-self : goal.invariant_of-self
invariant_of-self c =
    subst AreBindings (without_row (rw c.as_slice.ensures.value at c.in-Ok.ensures.row) c.self.invariant.rising ∙ sym c.remove.ensures.items)
    (fewer_sound (λ (binding : Binding). not (is_property c.args.at binding.at)) c.self.inside.rows.items c.self.invariant)

pub returns-in-Ok : goal.returns-in-Ok
returns-in-Ok c = rw (← c.self.view_is)
    (c.remove.ensures.items ∙ sym (without_row (rw c.as_slice.ensures.value at c.in-Ok.ensures.row) c.self.invariant.rising))

pub returns-in-Err : goal.returns-in-Err
returns-in-Err c = rw (← c.self.view_is) (sym (without_none (rw c.as_slice.ensures.value at c.in-Err.ensures.gap)))
