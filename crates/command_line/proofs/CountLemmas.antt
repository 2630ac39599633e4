-- What `count` does is the body of one number, and what gives it the next state keeps to the limits.
use Rattle.std.proofs.Common.{[], ◌∷◌, refl}
use Rattle.signature_core.specs.declared.kind.Kind.TheVariants.{Int}
use Rattle.stored_slots.specs.Functors.{IsBodyFor}
use Rattle.term_core.specs.Bodies.{IsNext}
use Rattle.term_core.specs.Term.{state}
use Rattle.command_line.specs.Count.{count_body, one_more}

pub count_is_body : IsBodyFor (Int ∷ []) count_body
count_is_body = record { takes = refl; keeps = record { limited = refl; arguments = ((tt, tt), tt); named = refl } }

pub count_is_next : IsNext 1 (one_more state)
count_is_next = record { limited = refl; arguments = (tt, tt); unread = refl }
