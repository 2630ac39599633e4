-- The result of the program's start.
use Rattle.std.specs.Prelude.{◌≡◌, ◌⊎◌, ℕ, Bool, true, false, List, Option, Some, None, Result, Ok, Err, IfErr, IfSome, MatchResult}
use Rattle.class_table.specs.declared.class.Class.{Class}
use Rattle.class_table.specs.declared.fault.ClassFault.{ClassFault}
use Rattle.class_table.specs.ClassFile.{table_of}
use Rattle.command_line.specs.Asked.{Asked, asked, is_named, run, help, mistake}
use Rattle.command_line.specs.declared.beginning.Beginning.{Beginning}
use Rattle.command_line.specs.Demonstration.{demonstration}
use Rattle.command_line.specs.declared.ending.Ending.{Ending}
use Rattle.command_line.specs.declared.ending.TheConstants.{NO_UTF_8}
use Rattle.command_line.specs.declared.ending.Stream.TheVariants.{StandardOutput, StandardError}
use Rattle.command_line.specs.Ending.{IsEnding, IsOfBadName, IsOutOfMemory, class_text, line}

-- The files by their paths.
pub record Files : Type 0 where
  -- The bytes of each file, if they are known.
  pub holds : List ℕ → Option (List ℕ)
  -- Whether it is known that a file can be opened and that no read of it fails.
  pub readable : List ℕ → Bool

abbrev pub files : (List ℕ → Option (List ℕ)) → (List ℕ → Bool) → Files
files holds readable = record { holds = holds; readable = readable }

-- The classes are those of the named file, or the demonstration classes.
abbrev pub AreClassesAt : Files → Option (List ℕ) → List Class → Type 0
AreClassesAt files None classes = classes ≡ demonstration
AreClassesAt files (Some path) classes = IfSome (files.holds path) (λ bytes. table_of bytes ≡ Ok classes)

-- A run is requested, and the result has its turns, its session's name, which is valid, and its classes.
abbrev pub RunsWith : Files → Asked → Beginning → Type 0
RunsWith files (run path turns slice) beginning =
    (beginning.turns ≡ turns) × (beginning.slice ≡ slice) × (is_named slice ≡ true) × AreClassesAt files path beginning.classes
RunsWith files help beginning = ⊥
RunsWith files mistake beginning = ⊥

-- The class file at this path has this fault, or it is not known that it can be read.
abbrev pub IsRefused : Files → List ℕ → Option ClassFault → Type 0
IsRefused files path None = files.readable path ≡ false
IsRefused files path (Some fault) = IfSome (files.holds path) (λ bytes. table_of bytes ≡ Err fault)

-- The program ends with the fault of the class file. The demonstration classes have no fault.
abbrev pub EndsAt : Files → Option (List ℕ) → Ending → Type 0
EndsAt files None ending = ⊥
EndsAt files (Some path) ending =
    (fault : Option ClassFault) × IsRefused files path fault × IsEnding 1 StandardError (line (class_text fault)) ending

-- A run that cannot begin ends because the session's name is invalid, for any classes, or otherwise with the fault of
-- the classes.
abbrev pub EndsRun : Bool → Files → Option (List ℕ) → Ending → Type 0
EndsRun false files path ending = IsOfBadName ending
EndsRun true files path ending = EndsAt files path ending

-- The program ends with the help, with the mistake in the words, or with the fault of the run.
abbrev pub EndsFor : Files → Asked → Ending → Type 0
EndsFor files help ending = (ending.status ≡ 0) × (ending.stream ≡ StandardOutput)
EndsFor files mistake ending = (ending.status ≡ 2) × (ending.stream ≡ StandardError)
EndsFor files (run path turns slice) ending = EndsRun (is_named slice) files path ending

-- Everything that a requested run needs, or otherwise the program's end as the words request, or because memory ran out.
abbrev pub Starts : Files → Asked → Result Beginning Ending → Type 0
Starts files wanted (Ok beginning) = RunsWith files wanted beginning
Starts files wanted (Err ending) = IsOutOfMemory ending ⊎ EndsFor files wanted ending

-- The end after words that are not UTF-8: they are reported as a mistake, unless memory ran out.
abbrev pub SaysNoWords : Ending → Type 0
SaysNoWords ending = IsOutOfMemory ending ⊎ IsEnding 2 StandardError NO_UTF_8.now ending

-- The program starts as the words of its command line request, if these are known. Otherwise it starts as some words
-- request, or reports that they are not UTF-8.
abbrev pub StartsByProcess : Option (List (List ℕ)) → Files → Result Beginning Ending → Type 0
StartsByProcess (Some words) files result = Starts files (asked words) result
StartsByProcess None files result = ((words : List (List ℕ)) × Starts files (asked words) result) ⊎ IfErr result (λ ending. SaysNoWords ending)

-- The words are those of the command line, if these are known, and otherwise only memory can have run out.
abbrev pub AreWords : {T : Type 0} → (T → List (List ℕ)) → Option (List (List ℕ)) → Result T Ending → Type 0
AreWords texts (Some words) result = MatchResult result (λ found. texts found ≡ words) (λ ending. IsOutOfMemory ending)
AreWords texts None result = IfErr result (λ ending. SaysNoWords ending)
