-- The codes of faults in a class file, and the results of calls that may find one.
use Rattle.std.specs.Prelude.{◌≡◌, ℕ, List, Result, Ok, Err, codes}
use Rattle.class_table.specs.declared.fault.ClassFaultKind.{ClassFaultKind}
use Rattle.class_table.specs.declared.fault.ClassFaultKind.TheVariants.{NotJson, BadForm, NameTaken, NoSuperclass, BadSignature}
use Rattle.class_table.specs.declared.fault.ClassFaultKind.TheVariants.{DeclaredTwice, BadNotify, BadBody, Limit}
use Rattle.class_table.specs.declared.fault.ClassFault.{ClassFault}
use Rattle.class_table.specs.declared.fault.ClassError.{ClassError}
use Rattle.class_table.specs.declared.fault.ClassError.TheVariants.{Fault, Memory}
use Rattle.class_table.specs.declared.fault.Stop.{Stop}
use Rattle.class_table.specs.declared.fault.Stop.TheVariants as stop

-- The bytes of a fault's code.
abbrev pub kind_text : ClassFaultKind → List ℕ
kind_text NotJson = codes "C01"
kind_text BadForm = codes "C02"
kind_text NameTaken = codes "C03"
kind_text NoSuperclass = codes "C04"
kind_text BadSignature = codes "C05"
kind_text DeclaredTwice = codes "C06"
kind_text BadNotify = codes "C07"
kind_text BadBody = codes "C08"
kind_text Limit = codes "C09"

-- The error of the class with this number.
abbrev pub error_at : ℕ → Stop → ClassError
error_at number (stop.Fault kind) = Fault (record { kind = kind; class = number })
error_at number stop.Memory = Memory

-- The call returns exactly this value, as contracts see it, or this kind of fault, unless memory ran out.
abbrev pub Gives : {T A : Type 0} → (T → A) → Result T Stop → Result A ClassFaultKind → Type 0
Gives seen (Ok value) wanted = wanted ≡ Ok (seen value)
Gives seen (Err (stop.Fault kind)) wanted = wanted ≡ Err kind
Gives seen (Err stop.Memory) wanted = Unit {0}

-- The call returns exactly this table or this fault, unless memory ran out.
abbrev pub Answers : {T : Type 0} → Result T ClassError → Result T ClassFault → Type 0
Answers (Ok table) wanted = wanted ≡ Ok table
Answers (Err (Fault fault)) wanted = wanted ≡ Err fault
Answers (Err Memory) wanted = Unit {0}
