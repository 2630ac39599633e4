use Rattle.std.proofs.Common.{◌==◌, not, subst, sym}
use Rattle.binding_values.specs.declared.binding.Binding.{Binding}
use Rattle.binding_values.specs.Binds.{AreBindings}
use Rattle.binding_values.proofs.BoundLemmas.{fewer_sound}
use Rattle.binding_values.proofs.bound.Bound.remove_object.Goals as goal

pub invariant_of-self : goal.invariant_of-self
invariant_of-self c = subst AreBindings (sym c.remove_of.ensures)
    (fewer_sound (λ (binding : Binding). not (binding.at.object == c.args.object)) c.self.inside.rows.items c.self.invariant)
