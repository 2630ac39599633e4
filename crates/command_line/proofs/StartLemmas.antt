-- What the answers of the command line and of the class file say of the start.
use Rattle.std.proofs.Common.{◌≡◌, ◌⊎◌, ℕ, Bool, true, List, Option, Some, None, Result, Ok, Err, refl, sym, subst, inl, inr}
use Rattle.std.specs.Prelude.{IsErrAnd}
use Rattle.std.proofs.lemmas.Bool.{false_from_ne_true}
use Rattle.command_line.specs.Asked.{Asked, AreOf, asked, is_named}
use Rattle.command_line.specs.ClassBytes.{AnswersAt}
use Rattle.command_line.specs.declared.beginning.Beginning.{Beginning}
use Rattle.command_line.specs.declared.class_file.ClassFileError.{ClassFileError}
use Rattle.command_line.specs.declared.class_file.ClassFileError.TheVariants.{Refused, Unreadable, Memory}
use Rattle.command_line.specs.declared.ending.Ending.{Ending}
use Rattle.command_line.specs.declared.options.Options.{Options}
use Rattle.command_line.specs.Ending.{EndsByClasses, IsOutOfMemory}
use Rattle.command_line.specs.Start.{Files, AreWords, EndsAt, EndsFor, EndsRun, SaysNoWords, Starts, StartsByProcess}

ends_at : (files : Files) (path : Option (List ℕ)) (error : ClassFileError) (ending : Ending) → AnswersAt files.holds files.readable path (Err error)
    → EndsByClasses error ending → IsOutOfMemory ending ⊎ EndsAt files path ending
ends_at files path Memory ending answers ends = inl ends
ends_at files None (Refused fault) ending answers ends = absurd answers
ends_at files None Unreadable ending answers ends = absurd answers
ends_at files (Some path) (Refused fault) ending answers ends = inr (Some fault, answers.0, ends)
ends_at files (Some path) Unreadable ending answers ends =
    inr (None, false_from_ne_true (files.readable path) (λ known. answers.1 known refl), ends)

-- where a run is asked for, it ends by its name or by its classes
ends_as : (files : Files) (wanted : Asked) (options : Options) (ending : Ending) (named : Bool) → AreOf wanted options → is_named options.slice ≡ named
    → EndsRun named files options.classes ending → EndsFor files wanted ending
ends_as files wanted options ending named are is ends =
    subst (λ (asked : Asked). EndsFor files asked ending) (sym are) (subst (λ b. EndsRun b files options.classes ending) (sym is) ends)

-- where there are no classes, the program ends as it has to
pub ends_for : (files : Files) (wanted : Asked) (options : Options) (error : ClassFileError) (ending : Ending) → AreOf wanted options
    → is_named options.slice ≡ true → AnswersAt files.holds files.readable options.classes (Err error)
    → IsOutOfMemory ending ⊎ EndsByClasses error ending → IsOutOfMemory ending ⊎ EndsFor files wanted ending
ends_for files wanted options error ending are named answers (inl memory) = inl memory
ends_for files wanted options error ending are named answers (inr ends) = elim (ends_at files options.classes error ending answers ends) [
  | inl memory ↦ inl memory
  | inr told ↦ inr (ends_as files wanted options ending true are named told)
]

-- a start by these words is one by the words of the command line
pub starts_by : {T : Type 0} (texts : T → List (List ℕ)) (given : Option (List (List ℕ))) (files : Files) (found : T) (result : Result Beginning Ending)
    → AreWords texts given (Ok found) → Starts files (asked (texts found)) result → StartsByProcess given files result
starts_by texts (Some words) files found result are starts = subst (λ (ws : List (List ℕ)). Starts files (asked ws) result) are starts
starts_by texts None files found result are starts = inl (texts found, starts)

-- and so is an end where there are no words
pub ends_without : {T : Type 0} (texts : T → List (List ℕ)) (given : Option (List (List ℕ))) (files : Files) (ending : Ending)
    (result : Result Beginning Ending)
    → IsErrAnd result (λ it. it ≡ ending) → AreWords texts given (Err ending) → StartsByProcess given files result
ends_without texts given files ending (Ok beginning) is are = absurd is
ends_without texts (Some words) files ending (Err it) is are = inl (subst (λ (e : Ending). IsOutOfMemory e) (sym is) are)
ends_without texts None files ending (Err it) is are = inr (subst (λ (e : Ending). SaysNoWords e) (sym is) are)
