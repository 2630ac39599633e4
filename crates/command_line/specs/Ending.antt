-- How the program ends, and its last text.
use Rattle.std.specs.Prelude.{◌≡◌, ◌≢◌, ◌⊎◌, ◌++◌, ◌∷◌, ◌==◌, ℕ, List, [], Option, Some, None, codes, if◌then◌else◌}
use Rattle.std.specs.Fmt.{decimal}
use Rattle.std.specs.Cow.{cow_str_bytes}
use Rattle.std.specs.Io.KnownBytes.{Appends}
use Rattle.clap.specs.declared.error.kind.ErrorKind.{ErrorKind}
use Rattle.clap.specs.declared.error.kind.ErrorKind.TheVariants.{OutOfMemory}
use Rattle.class_table.specs.declared.fault.ClassFault.{ClassFault}
use Rattle.class_table.specs.Faults.{kind_text}
use Rattle.command_line.specs.Statuses.{status_for}
use Rattle.wire_format.specs.Counts.{FailsOnce}
use Rattle.command_line.specs.declared.class_file.ClassFileError.{ClassFileError}
use Rattle.command_line.specs.declared.class_file.ClassFileError.TheVariants.{Refused, Unreadable, Memory}
use Rattle.command_line.specs.declared.ending.Ending.{Ending}
use Rattle.command_line.specs.declared.ending.Stream.{Stream}
use Rattle.command_line.specs.declared.ending.Stream.TheVariants.{StandardOutput, StandardError}

-- A text ended by a line feed.
abbrev pub line : List ℕ → List ℕ
line text = text ++ 10 ∷ []

-- The message for a class file with this fault, or for one that could not be read.
abbrev pub class_text : Option ClassFault → List ℕ
class_text (Some fault) = codes "metad: class file refused: " ++ kind_text fault.kind ++ codes " at class " ++ decimal fault.class
class_text None = codes "metad: class file refused: unreadable"

-- The status, the stream, and the text written to it.
pub record IsEnding (status : ℕ) (stream : Stream) (text : List ℕ) (ending : Ending) : Type 0 where
  pub status_is : ending.status ≡ status
  pub stream_is : ending.stream ≡ stream
  pub text_is : cow_str_bytes ending.text ≡ text

-- The end when memory runs out.
abbrev pub IsOutOfMemory : Ending → Type 0
IsOutOfMemory = IsEnding 5 StandardError (line (codes "metad: out of memory"))

-- The end after an invalid session name.
abbrev pub IsOfBadName : Ending → Type 0
IsOfBadName = IsEnding 2 StandardError (line (codes "metad: bad session name"))

-- The end after a refused class file.
abbrev pub EndsByClasses : ClassFileError → Ending → Type 0
EndsByClasses (Refused fault) ending = IsEnding 1 StandardError (line (class_text (Some fault))) ending
EndsByClasses Unreadable ending = IsEnding 1 StandardError (line (class_text None)) ending
EndsByClasses Memory ending = IsOutOfMemory ending

-- The stream of the last text, by the exit status.
abbrev pub stream_for : ℕ → Stream
stream_for status = if status == 0 then StandardOutput else StandardError

-- The status and the stream of the end after words that gave no options.
pub record IsToldOfWords (kind : ErrorKind) (ending : Ending) : Type 0 where
  pub not_memory : kind ≢ OutOfMemory
  pub status_is : ending.status ≡ status_for kind
  pub stream_is : ending.stream ≡ stream_for (status_for kind)

-- The end after words that gave no options.
abbrev pub EndsByWords : ErrorKind → Ending → Type 0
EndsByWords kind ending = IsOutOfMemory ending ⊎ IsToldOfWords kind ending

-- A sink: the bytes that it has taken, if they are known, and how often it failed.
pub record Sunk : Type 0 where
  pub received : Option (List ℕ)
  pub failures : ℕ

abbrev pub sunk : Option (List ℕ) → ℕ → Sunk
sunk held failures = record { received = held; failures = failures }

-- A sink took all of a text, or it failed.
abbrev pub Takes : Sunk → Sunk → List ℕ → Type 0
Takes old new text = (Appends old.received new.received text × (new.failures ≡ old.failures)) ⊎ FailsOnce old.failures new.failures

-- Standard output took the whole text, or it failed: then a message goes to standard error, and the status is 4.
abbrev pub Shows : Ending → ℕ → Sunk → Sunk → Sunk → Sunk → Type 0
Shows ending status output output_after error error_after =
    ((status ≡ ending.status) × Appends output.received output_after.received (cow_str_bytes ending.text)
    × (output_after.failures ≡ output.failures) × (error_after ≡ error))
    ⊎ ((status ≡ 4) × FailsOnce output.failures output_after.failures × Takes error error_after (line (codes "metad: write fault")))

-- The text goes to standard error, and nothing to standard output.
abbrev pub Complains : Ending → ℕ → Sunk → Sunk → Sunk → Sunk → Type 0
Complains ending status output output_after error error_after =
    (status ≡ ending.status) × Takes error error_after (cow_str_bytes ending.text) × (output_after ≡ output)
