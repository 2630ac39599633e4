-- The classes in the bytes of a class file, and how the bytes are read.
use Rattle.std.specs.Prelude.{◌≡◌, ◌≢◌, ◌≤◌, ℕ, Bool, true, List, Option, Some, None, Result, Ok, Err, IfSome, length}
use Rattle.std.specs.Io.KnownBytes.{Consumes}
use Rattle.class_table.specs.declared.class.Class.{Class}
use Rattle.class_table.specs.declared.fault.ClassError.{ClassError}
use Rattle.class_table.specs.declared.fault.ClassError.TheVariants as table
use Rattle.class_table.specs.declared.fault.ClassFault.{ClassFault}
use Rattle.class_table.specs.ClassFile.{table_of}
use Rattle.wire_format.specs.Counts.{FailsOnce}
use Rattle.command_line.specs.declared.class_file.ClassFileError.{ClassFileError}
use Rattle.command_line.specs.declared.class_file.ClassFileError.TheVariants.{Refused, Unreadable, Memory}
use Rattle.command_line.specs.Demonstration.{demonstration}

-- A fault of the table, reported for its file.
abbrev pub file_error : ClassError → ClassFileError
file_error (table.Fault fault) = Refused fault
file_error table.Memory = Memory

-- The call returns exactly these classes or this fault, unless memory ran out.
abbrev pub Answers : {T : Type 0} → Result T ClassFileError → Result T ClassFault → Type 0
Answers (Ok classes) wanted = wanted ≡ Ok classes
Answers (Err (Refused fault)) wanted = wanted ≡ Err fault
Answers (Err Unreadable) wanted = ⊥
Answers (Err Memory) wanted = Unit {0}

-- The call returns exactly these classes or this fault, or reports that the file is unreadable, unless memory ran out.
abbrev pub AnswersOfFile : {T : Type 0} → Result T ClassFileError → Result T ClassFault → Type 0
AnswersOfFile (Ok classes) wanted = wanted ≡ Ok classes
AnswersOfFile (Err (Refused fault)) wanted = wanted ≡ Err fault
AnswersOfFile (Err Unreadable) wanted = Unit {0}
AnswersOfFile (Err Memory) wanted = Unit {0}

-- The file is reported as unreadable only if it is not known that it can be read.
abbrev pub IsReadIf : {T : Type 0} → Bool → Result T ClassFileError → Type 0
IsReadIf readable result = readable ≡ true → result ≢ Err Unreadable

-- The call returns the demonstration classes, unless memory ran out.
abbrev pub AnswersByDemonstration : Result (List Class) ClassFileError → Type 0
AnswersByDemonstration (Ok classes) = classes ≡ demonstration
AnswersByDemonstration (Err Memory) = Unit {0}
AnswersByDemonstration (Err _) = ⊥

-- If no read of a source fails, this one did not fail, and no later one will.
abbrev pub ReadsSurely : {T : Type 0} → Bool → Bool → Result T ClassFileError → Type 0
ReadsSurely old new result = old ≡ true → (result ≢ Err Unreadable) × (new ≡ true)

-- The result for a file depends on all its bytes, if they are known, and it is not unreadable if no read of it fails.
-- Without a file, the result is the demonstration classes.
abbrev pub AnswersFor : {S : Type 0} → (S → Option (List ℕ)) → (S → Bool) → Option S → Result (List Class) ClassFileError → Type 0
AnswersFor left infallible None result = AnswersByDemonstration result
AnswersFor left infallible (Some file) result =
    IfSome (left file) (λ bytes. AnswersOfFile result (table_of bytes)) × IsReadIf (infallible file) result

-- At most this many bytes are read: one more than a class file may have.
abbrev pub most_bytes : ℕ
most_bytes = 1048577

-- If the bytes of the source are known, at most this many of the first ones are read.
abbrev pub TakesAtMost : ℕ → Option (List ℕ) → Option (List ℕ) → Type 0
TakesAtMost most old new = (taken : List ℕ) × (length taken ≤ most) × Consumes old new taken

-- The source failed once if the file is reported as unreadable, and otherwise never.
abbrev pub CountsUnreadable : {T : Type 0} → ℕ → ℕ → Result T ClassFileError → Type 0
CountsUnreadable old new (Ok value) = new ≡ old
CountsUnreadable old new (Err (Refused fault)) = new ≡ old
CountsUnreadable old new (Err Unreadable) = FailsOnce old new
CountsUnreadable old new (Err Memory) = new ≡ old

-- The result for the file at a path depends on all its bytes, if they are known, and it is not unreadable if it is known
-- that it can be read. Without a path, the result is the demonstration classes.
abbrev pub AnswersAt : (List ℕ → Option (List ℕ)) → (List ℕ → Bool) → Option (List ℕ) → Result (List Class) ClassFileError → Type 0
AnswersAt holds readable None result = AnswersByDemonstration result
AnswersAt holds readable (Some path) result =
    IfSome (holds path) (λ bytes. AnswersOfFile result (table_of bytes)) × IsReadIf (readable path) result
