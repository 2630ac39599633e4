-- The results of calls that may be refused or run out of memory.
use Rattle.std.specs.Prelude.{◌≡◌, Option, Some, None, Result, Ok, Err}
use Rattle.plain_types.specs.declared.code.Code.{Code}
use Rattle.plain_types.specs.declared.fault.Fault.{Fault}
use Rattle.plain_types.specs.declared.fault.Fault.TheVariants.{Refused, Memory}

-- The call returns exactly this value or this refusal, unless memory ran out.
abbrev pub Answers : {T : Type 0} → Result T Fault → Result T Code → Type 0
Answers (Ok value) wanted = wanted ≡ Ok value
Answers (Err (Refused code)) wanted = wanted ≡ Err code
Answers (Err Memory) wanted = Unit {0}

-- The call is refused exactly by this code, and succeeds if there is none. Memory can run out only after all refusals
-- are ruled out.
abbrev pub RefusedBy : {T : Type 0} → Option Code → Result T Fault → Type 0
RefusedBy refusal (Ok value) = refusal ≡ None
RefusedBy refusal (Err (Refused code)) = refusal ≡ Some code
RefusedBy refusal (Err Memory) = refusal ≡ None

-- A fact if memory ran out.
abbrev pub OnMemory : {T : Type 0} → Result T Fault → Type 0 → Type 0
OnMemory (Ok value) fact = Unit {0}
OnMemory (Err (Refused code)) fact = Unit {0}
OnMemory (Err Memory) fact = fact

-- A fact if the call succeeded or was refused.
abbrev pub OnDone : {T : Type 0} → Result T Fault → Type 0 → Type 0
OnDone (Ok value) fact = fact
OnDone (Err (Refused code)) fact = fact
OnDone (Err Memory) fact = Unit {0}
