-- What `clamp` does is the body of one number.
use Rattle.std.proofs.Common.{ℤ, ◌<◌, [], ◌∷◌, refl, arith}
use Rattle.signature_core.specs.declared.kind.Kind.TheVariants.{Int}
use Rattle.stored_slots.specs.Functors.{IsBodyFor}
use Rattle.term_core.specs.Bodies.{IsNext}
use Rattle.term_core.specs.Term.{state}
use Rattle.command_line.specs.Clamp.{clamp_body}

pub clamp_is_body : (least most : ℤ) → IsBodyFor (Int ∷ []) (clamp_body least most)
clamp_is_body least most =
    let within : 0 < 1 = omega arith in
    record {
      takes = refl;
      keeps = record {
        limited = refl;
        arguments = (((within, tt), ((tt, tt), (((tt, within), ((tt, tt), (within, tt))), tt))), tt);
        named = refl;
      };
    }

pub clamp_is_next : IsNext 1 state
clamp_is_next = record { limited = refl; arguments = tt; unread = refl }
