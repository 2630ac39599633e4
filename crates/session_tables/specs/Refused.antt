-- Facts about refused calls.
use Rattle.std.specs.Prelude.{Result, Ok, Err}
use Rattle.plain_types.specs.declared.fault.Fault.{Fault}
use Rattle.plain_types.specs.declared.fault.Fault.TheVariants.{Refused, Memory}

-- A fact if the call was refused.
abbrev pub OnRefused : {T : Type 0} → Result T Fault → Type 0 → Type 0
OnRefused (Ok value) fact = Unit {0}
OnRefused (Err (Refused code)) fact = fact
OnRefused (Err Memory) fact = Unit {0}
