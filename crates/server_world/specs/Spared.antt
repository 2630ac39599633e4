-- What a spared session receives in a run in which others ran out of memory.
use Rattle.std.specs.Prelude.{◌≡◌, ◌≢◌, ◌⊎◌, ℕ, Bool, true, List, [], ◌∷◌, IsTrue, IsFalse}
use Rattle.isolation.specs.Machine.{Tagged}
use Rattle.isolation.specs.Influence.{influences}
use Rattle.isolation.specs.Spared.{Mortal}
use Rattle.plain_types.specs.declared.code.Code.TheVariants.{SessionFailed}
use Rattle.session_model.specs.declared.line.Line.TheVariants.{Error}
use Rattle.session_model.specs.Asked.{Asked}
use Rattle.session_model.specs.Machine.{machine}
use Rattle.session_model.specs.State.{State}
use Rattle.server_world.specs.declared.report.Entry.{Entry}
use Rattle.server_world.specs.declared.report.Entry.TheVariants.{Lines, OutOfMemory}
use Rattle.server_world.specs.Runs.{IsApart}
use Rattle.server_world.specs.Server.{Server, failed, names, settings, states}

-- Each session, and whether it has failed.
abbrev pub mortal : Server → List ℕ → Mortal State
mortal server name = record { state = states server name; failed = failed server name }

-- The answer of a command was neither that memory ran out (`E21`) nor that its session has failed (`E20`).
abbrev pub IsFine : Entry → Type 0
IsFine (Lines lines) = lines ≢ Error SessionFailed ∷ []
IsFine OutOfMemory = ⊥

-- Each command has an entry, and those of the sessions that pass the test are fine.
abbrev pub AreFine : (List ℕ → Bool) → List (Tagged (List ℕ) Asked) → List Entry → Type 0
AreFine keep [] entries = Unit {0}
AreFine keep (t ∷ ts) [] = ⊥
AreFine keep (t ∷ ts) (entry ∷ entries) = (keep t.session ≡ true → IsFine entry) × AreFine keep ts entries

-- The session has failed, or it has not and is in this state.
abbrev pub EndsIn : Server → List ℕ → State → Type 0
EndsIn server name state = IsTrue (failed server name) ⊎ (IsFalse (failed server name) × (states server name ≡ state))

-- The sessions that influence `s` were spared.
abbrev pub IsSpared : Server → List (Tagged (List ℕ) Asked) → List Entry → List ℕ → Type 0
IsSpared old ts entries s = AreFine (influences (machine (settings old)) (states old) (names old) ts s) ts entries

-- A session that was spared, with all sessions that influence it, receives what it would receive if memory had never run
-- out.
abbrev pub SparesItsSession : Server → Server → List (Tagged (List ℕ) Asked) → List Entry → List ℕ → Type 0
SparesItsSession old new ts entries s = IsSpared old ts entries s → IsApart old ts entries s (EndsIn new s)
