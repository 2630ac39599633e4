-- The table of a class file.
use Rattle.std.specs.Prelude.{◌+◌, ℕ, List, [], ◌∷◌, ◌++◌, Option, None, Result, Ok, codes, length, nat_le, if◌then◌else◌}
use Rattle.std.specs.Option.{ok_or}
use Rattle.std.specs.Str.{is_utf8}
use Rattle.serde_json.specs.Data.{Data}
use Rattle.serde_json.specs.Read.{read}
use Rattle.term_core.specs.Json.{has_only}
use Rattle.class_table.specs.declared.class.TheConstants.{CLASSES}
use Rattle.class_table.specs.declared.class.Class.{Class}
use Rattle.class_table.specs.declared.fault.ClassFaultKind.TheVariants.{NotJson, BadForm, Limit}
use Rattle.class_table.specs.declared.fault.ClassFault.{ClassFault}
use Rattle.class_table.specs.declared.file.TheConstants.{FILE_BYTES}
use Rattle.class_table.specs.Steps.{Read, ◌>>=◌, provided, numbered}
use Rattle.class_table.specs.Written.{at_key, array_in}
use Rattle.class_table.specs.Declaring.{class_of, q_object}

-- The JSON in a file.
abbrev pub json_of : List ℕ → Option Data
json_of bytes = if is_utf8 bytes then read bytes else None

unfoldable pub json_in : List ℕ → Read Data
json_in bytes = provided (nat_le (length bytes) FILE_BYTES) Limit (ok_or (json_of bytes) NotJson)

-- The classes in a file.
unfoldable pub classes_in : Data → Read (List Data)
classes_in json =
    at_key (codes "classes") json >>= λ found.
    array_in found >>= λ written.
    provided (has_only (codes "classes" ∷ []) json) BadForm (
    provided (nat_le (length written) CLASSES) Limit (Ok written))

-- Classes that are declared one after another. The first of them has this number.
unfoldable pub declared : ℕ → List Class → List Data → Result (List Class) ClassFault
declared number classes [] = Ok classes
declared number classes (json ∷ rest) = numbered number (class_of classes json) >>= λ class. declared (number + 1) (classes ++ class ∷ []) rest

-- The classes of a file after `QObject`, or the first fault. The file as a whole has the number 0.
unfoldable pub table_of : List ℕ → Result (List Class) ClassFault
table_of bytes =
    numbered 0 (json_in bytes) >>= λ json.
    numbered 0 (classes_in json) >>= λ written.
    declared 1 (q_object ∷ []) written
