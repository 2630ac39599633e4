-- The report of a run: an entry for each command.
use Rattle.std.specs.Prelude.{◌≡◌, ◌⊎◌, ◌<◌, ◌&&◌, ℕ, Bool, true, false, not, bytes_eq, List, [], ◌∷◌, Option, Some, None, IfNone, OnSome, length, map, IsTrue}
use Rattle.std.specs.List.{list_any}
use Rattle.isolation.specs.Machine.{Tagged}
use Rattle.isolation.specs.World.{only, world_after, world_lines, at_session}
use Rattle.isolation.specs.Influence.{IsClosed, influences}
use Rattle.isolation.specs.Slice.{KeepsAtLeast, kept, slice}
use Rattle.isolation.specs.Alone.{items, alone_after, alone_lines}
use Rattle.session_model.specs.declared.command.Tagged.{Tagged as Given}
use Rattle.session_model.specs.State.{State}
use Rattle.session_model.specs.Asked.{Asked, tag}
use Rattle.session_model.specs.Thread.{Settings}
use Rattle.session_model.specs.Machine.{machine}
use Rattle.session_model.specs.declared.line.Line.{Line}
use Rattle.session_engine.specs.Sessions.{AreSound, IsStep, is_reset}
use Rattle.server_world.specs.declared.report.Entry.{Entry}
use Rattle.server_world.specs.Names.{with_name, with_names}
use Rattle.server_world.specs.Server.{Server, IsLost, KnowsAtMost, KnowsItsSessions, failed, names, seen_by_name, settings, states, was_refused}
use Rattle.server_world.specs.declared.report.Entry.TheVariants.{Lines, OutOfMemory}

-- The commands of a list, as definitions see them.
abbrev pub tags : List Given → List (Tagged (List ℕ) Asked)
tags list = map tag list

abbrev pub is_out_of_memory : Entry → Bool
is_out_of_memory (Lines lines) = false
is_out_of_memory OutOfMemory = true

-- The lines of an entry, unless memory ran out.
abbrev pub entry_lines : Entry → Option (List Line)
entry_lines (Lines lines) = Some lines
entry_lines OutOfMemory = None

-- One command of a run, with its entry: a step from the present sessions.
pub record IsEntry (old new : Server) (t : Tagged (List ℕ) Asked) (entry : Entry) : Type 0 where
  pub step : IsStep (seen_by_name old) (seen_by_name new) t.session t.command (entry_lines entry)
  pub known : KnowsAtMost old new t.session
  pub there : OnSome (entry_lines entry) (names new ≡ with_name (names old) t.session)
  pub lost : IfNone (entry_lines entry) (IsLost old new t.session)

-- Commands that are done one after another, each from the sessions that the previous one left, with an entry for each.
abbrev pub AreSteps : Server → List (Tagged (List ℕ) Asked) → List Entry → Server → Type 0
AreSteps old [] [] new = new ≡ old
AreSteps old (t ∷ ts) (entry ∷ entries) new = (between : Server) × IsEntry old between t entry × AreSteps between ts entries new
AreSteps old [] (entry ∷ entries) new = ⊥
AreSteps old (t ∷ ts) [] new = ⊥

-- Memory ran out for some command.
abbrev pub IsShort : List Entry → Type 0
IsShort entries = IsTrue (list_any is_out_of_memory entries)

module _ (settings : Settings) (world : List ℕ → State) (ts : List (Tagged (List ℕ) Asked)) (entries : List Entry) where
  -- `s` receives what it would receive alone, with its own commands and the posts that reach it, and ends as it would
  -- then.
  pub record IsAsAlone (s : List ℕ) (Ends : State → Type 0) : Type 0 where
    pub lines : at_session (machine settings) s ts entries ≡ map Lines (alone_lines (machine settings) s (world s) (items (machine settings) s world ts))
    pub state : Ends (alone_after (machine settings) s (world s) (items (machine settings) s world ts))

  -- `s` receives what it would receive in the run of these commands, and ends as it would then.
  pub record IsAsWith (s : List ℕ) (others : List (Tagged (List ℕ) Asked)) (Ends : State → Type 0) : Type 0 where
    pub lines : at_session (machine settings) s ts entries ≡ map Lines (at_session (machine settings) s others (world_lines (machine settings) world others))
    pub state : Ends (world_after (machine settings) world others s)

-- What `s` receives in a run, and how it ends.
pub record IsApart (old : Server) (ts : List (Tagged (List ℕ) Asked)) (entries : List Entry) (s : List ℕ) (Ends : State → Type 0) : Type 0 where
  -- As it would alone.
  pub alone : IsAsAlone (settings old) (states old) ts entries s Ends
  -- As it would without the commands of sessions to which no chain of joins leads from it.
  pub influenced : IsAsWith (settings old) (states old) ts entries s (only (influences (machine (settings old)) (states old) (names old) ts s) ts) Ends
  -- As it would with only the commands in its slice.
  pub sliced : IsAsWith (settings old) (states old) ts entries s (kept (slice (machine (settings old)) s (states old) ts).marks ts) Ends
  -- As it would with these and any other commands of the run.
  pub between : (more : List Bool) → KeepsAtLeast (slice (machine (settings old)) s (states old) ts).marks more
      → IsAsWith (settings old) (states old) ts entries s (kept more ts) Ends
  -- As it would in each run that has the same commands, in the same order, of sessions that are closed under joins.
  pub interleaved : (keep : List ℕ → Bool) (others : List (Tagged (List ℕ) Asked)) → keep s ≡ true
      → IsClosed (machine (settings old)) keep (states old) ts → IsClosed (machine (settings old)) keep (states old) others → only keep others ≡ only keep ts
      → IsAsWith (settings old) (states old) ts entries s others Ends

-- If memory was found, `s` ends in that state.
abbrev pub IsIsolated : Server → Server → List (Tagged (List ℕ) Asked) → List Entry → List ℕ → Type 0
IsIsolated old new ts entries s = IsApart old ts entries s (λ state. states new s ≡ state)

-- A run in which memory was found has the lines and states of the definitions.
pub record IsWorldRun (old new : Server) (ts : List (Tagged (List ℕ) Asked)) (entries : List Entry) : Type 0 where
  pub lines : entries ≡ map Lines (world_lines (machine (settings old)) (states old) ts)
  pub states : states new ≡ world_after (machine (settings old)) (states old) ts
  -- From then on the sessions of its commands are known.
  pub names : names new ≡ with_names (names old) ts

-- What holds after every run.
pub record IsLater (old new : Server) : Type 0 where
  pub settings : settings new ≡ settings old
  pub kept : IsTrue (was_refused old) → IsTrue (was_refused new)
  pub knows : KnowsItsSessions new
  pub sound : AreSound (seen_by_name new)

-- Whether the command resets this session.
abbrev pub resets : List ℕ → Tagged (List ℕ) Asked → Bool
resets name t = bytes_eq name t.session && is_reset t.command

-- A session that existed, or gave one of these commands, has failed during a command of another session. It still has,
-- unless it was reset since.
pub record AnotherFailed (old new : Server) (ts : List (Tagged (List ℕ) Asked)) : Type 0 where
  pub name : List ℕ
  pub there : IsTrue (list_any (bytes_eq name) (with_names (names old) ts))
  pub another : IsTrue (list_any (λ t. not (bytes_eq name t.session)) ts)
  pub fails : IsTrue (failed new name) ⊎ IsTrue (list_any (resets name) ts)

-- Why memory was first refused in a run: there was no room for its list, it ran out for a command, or it ran out for a
-- session when a post of another one arrived. The last cannot happen if one session gives all commands and there is no
-- other.
abbrev pub IsBlamed : Server → Server → List (Tagged (List ℕ) Asked) → List Entry → Type 0
IsBlamed old new ts entries = (length entries < length ts) ⊎ (IsShort entries ⊎ AnotherFailed old new ts)
