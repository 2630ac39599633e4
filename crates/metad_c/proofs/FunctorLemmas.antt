-- The functors of the program, by their indices.
use Rattle.std.proofs.Common.{◌≡◌, ◌≢◌, ℕ, zero, suc, List, [], ◌∷◌, refl, subst}
use Rattle.signature_core.specs.declared.kind.Kind.TheVariants.{Int}
use Rattle.variant_value.specs.declared.value.Value.{Value}
use Rattle.stored_slots.specs.Functors.{AreArguments, IsCall}
use Rattle.metad_c.specs.Functors.{program_functors}

-- the first takes a number,
pub takes_a_number : (index : ℕ) (args : List Value) → index ≡ 0 → IsCall program_functors index args → AreArguments (Int ∷ []) args
takes_a_number index args is call = subst (λ index. IsCall program_functors index args) is call

-- and there are two
pub no_third : (index : ℕ) (args : List Value) → index ≢ 0 → index ≢ 1 → IsCall program_functors index args → ⊥
no_third zero args first second call = first refl
no_third (suc zero) args first second call = second refl
no_third (suc (suc n)) args first second call = call
