-- Ints and truths, which an evaluation returns apart from all other values.
use Rattle.std.specs.Prelude.{◌≡◌, Bool, true, false, Option, Some, None, Result, Ok, Err}
use Rattle.std.specs.Option.{option_map_or}
use Rattle.plain_types.specs.declared.code.Code.{Code}
use Rattle.plain_types.specs.declared.code.Code.TheVariants.{BadValue}
use Rattle.variant_value.specs.declared.value.Value.{Value}
use Rattle.variant_value.specs.declared.value.Value.TheVariants as v
use Rattle.variant_value.specs.Values.{truth_in}
use Rattle.term_evaluation.specs.declared.halt.Halt.{Halt}
use Rattle.term_evaluation.specs.declared.halt.Halt.TheVariants.{Refused}
use Rattle.term_evaluation.specs.declared.scalar.Scalar.{Scalar}
use Rattle.term_evaluation.specs.declared.scalar.Scalar.TheVariants.{Int, True, False, Other}
use Rattle.term_evaluation.specs.Outcomes.{Ends, answer}

-- The scalar that a value is.
abbrev pub scalar_of : Value → Scalar
scalar_of (v.Int z) = Int z
scalar_of (v.Bool true) = True
scalar_of (v.Bool false) = False
scalar_of _ = Other

-- The value that a scalar is.
abbrev pub scalar_value : Scalar → Option Value
scalar_value (Int z) = Some (v.Int z)
scalar_value True = Some (v.Bool true)
scalar_value False = Some (v.Bool false)
scalar_value Other = None

-- What an evaluation ends with that returned a scalar: that value, or else what it put aside.
abbrev pub held : {O : Type 0} → Scalar → Result Value (Halt O) → Result Value (Halt O)
held scalar aside = option_map_or Ok (scalar_value scalar) aside

-- What an evaluation ends with that goes on after another one: with the result for its value, or as it ended without one.
abbrev pub Continues : {O : Type 0} → Result Value (Halt O) → (Value → Result Value Code) → Result Value (Halt O) → Type 0
Continues (Ok value) f result = Ends result (answer (f value))
Continues (Err halt) f result = result ≡ Err halt

-- The value that an evaluation ended with was taken; a fault stays aside.
abbrev pub IsTaken : {O : Type 0} → Result Value (Halt O) → Bool → Value → Result Value (Halt O) → Type 0
IsTaken (Ok found) taken value aside = (taken ≡ true) × (value ≡ found)
IsTaken (Err halt) taken value aside = (taken ≡ false) × (aside ≡ Err halt)

-- The truth that an evaluation ended with. A value that is not a truth was put aside as a fault.
abbrev pub IsTruth : {O : Type 0} → Result Value (Halt O) → Option Bool → Result Value (Halt O) → Type 0
IsTruth (Ok value) (Some truth) aside = truth_in value ≡ Some truth
IsTruth (Ok value) None aside = (truth_in value ≡ None) × (aside ≡ Err (Refused BadValue))
IsTruth (Err halt) (Some truth) aside = ⊥
IsTruth (Err halt) None aside = aside ≡ Err halt
