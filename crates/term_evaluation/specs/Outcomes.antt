-- The outcome of an evaluation.
use Rattle.std.specs.Prelude.{◌≡◌, Result, Ok, Err}
use Rattle.plain_types.specs.declared.code.Code.{Code}
use Rattle.variant_value.specs.declared.value.Value.{Value}
use Rattle.plain_types.specs.declared.fault.Fault.{Fault}
use Rattle.plain_types.specs.declared.fault.Fault.TheVariants as fault
use Rattle.term_evaluation.specs.declared.halt.Halt.{Halt}
use Rattle.term_evaluation.specs.declared.halt.Halt.TheVariants.{Refused, Own, Memory}

-- Why there is no value: a refusal, or a fault of the reader's own.
pub data Cause (O : Type 0) : Type 0 where
  refused : Code → Cause O
  own : O → Cause O

-- A value, or why there is none.
abbrev pub Answer : Type 0 → Type 0
Answer O = Result Value (Cause O)

-- A first answer, and then the answer for its value.
infixl 10 ◌>>=◌
abbrev pub ◌>>=◌ : {O : Type 0} → Answer O → (Value → Answer O) → Answer O
(Ok value) >>= f = f value
(Err cause) >>= f = Err cause

-- A value or a refusal, as an answer.
abbrev pub answer : {O : Type 0} → Result Value Code → Answer O
answer (Ok value) = Ok value
answer (Err code) = Err (refused code)

-- The call ends with exactly this value or this cause, unless memory ran out.
abbrev pub Ends : {O : Type 0} → Result Value (Halt O) → Answer O → Type 0
Ends (Ok value) wanted = wanted ≡ Ok value
Ends (Err (Refused code)) wanted = wanted ≡ Err (refused code)
Ends (Err (Own fault)) wanted = wanted ≡ Err (own fault)
Ends (Err Memory) wanted = Unit {0}

-- A fact if memory did not run out.
abbrev pub IfEnds : {O : Type 0} → Result Value (Halt O) → Type 0 → Type 0
IfEnds (Ok value) P = P
IfEnds (Err (Refused code)) P = P
IfEnds (Err (Own fault)) P = P
IfEnds (Err Memory) P = Unit {0}

-- A fault that is not the reader's own.
abbrev pub halted : {O : Type 0} → Fault → Halt O
halted (fault.Refused code) = Refused code
halted fault.Memory = Memory
