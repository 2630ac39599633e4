-- The descriptions of functors.
use Rattle.std.specs.Prelude.{Bool, true, false, not, map}
use Rattle.stored_slots.specs.declared.functor.Functor.{Functor}
use Rattle.term_core.specs.Term as term
use Rattle.term_core.specs.Term.{Term}
use Rattle.session_model.specs.declared.descriptions.FunctorDescription.{FunctorDescription}

-- Whether an expression is the state itself.
abbrev pub is_state : Term → Bool
is_state term.state = true
is_state _ = false

-- A functor has a state if its next state may differ from the present one.
abbrev pub functor_description : Functor → FunctorDescription
functor_description functor = record { keeps_state = not (is_state functor.next); kinds = functor.params; name = functor.name }
