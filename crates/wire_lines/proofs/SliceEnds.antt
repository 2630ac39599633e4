-- How a run for a slice ends.
use Rattle.std.proofs.Common.{◌≡◌, ◌⊎◌, inl, ℕ, ◌<◌, ◌≤◌, ◌^◌, List, [], ◌++◌, length, map, filter, Option, Some, Result, Ok, Err, IsFalse, refl, sym, ap, ap₂}
use Rattle.std.proofs.Common.{◌∙◌, subst, append-nil, ⊎_elim}
use Rattle.std.specs.Prelude.{◌≢◌, All}
use Rattle.std.specs.Io.KnownBytes.{Appends}
use Rattle.std.specs.List.{flat_map}
use Rattle.std.proofs.KnownBytes.{Appends-nil}
use Rattle.isolation.specs.Machine.{Tagged}
use Rattle.isolation.specs.Pieces.{commands_of}
use Rattle.isolation.specs.Slice.{Slice, back, slice}
use Rattle.isolation.proofs.ForCallers.{notes_give_slice}
use Rattle.server_world.specs.Noting.{marked_from, named}
use Rattle.server_world.specs.Runs.{AreSteps}
use Rattle.server_world.specs.Server.{Server, names, settings, states, was_refused}
use Rattle.server_world.proofs.ForCallers.{steps_settings, steps_world}
use Rattle.session_model.specs.Asked.{Asked}
use Rattle.session_model.specs.Machine.{machine}
use Rattle.session_model.specs.Thread.{Settings}
use Rattle.session_model.proofs.ForCallers.{lawful}
use Rattle.wire_format.specs.Input.{lines_of, pieces_of}
use Rattle.wire_format.specs.Output.{world_of}
use Rattle.wire_format.proofs.ForCallers.{lines_of-empty}
use Rattle.wire_lines.specs.declared.fault.RunFault.{RunFault}
use Rattle.wire_lines.specs.declared.fault.RunFault.TheVariants.{Read, Write, Endless, Memory}
use Rattle.wire_lines.specs.declared.stream.Summary.{Summary}
use Rattle.wire_lines.specs.Run.{AppendsSome, IsPastReads, Reads, WriteFails}
use Rattle.wire_lines.specs.Slicing.{HasRun, SlicesOver, command_lines, is_command, sliced}
use Rattle.wire_lines.specs.Taking.{HasStopped, HasTaken, Noted, commands_in, line_at, numbered}
use Rattle.wire_lines.proofs.Isolated.{told_between}
use Rattle.wire_lines.proofs.Sliced.{commands_in-lines, numbers-text, numbers-within, told_as_sliced}

-- no command is done
pub HasRun-nothing : (bytes : List ℕ) (server : Server) → HasRun bytes server server
HasRun-nothing bytes server = record { count = 0; between = server; entries = []; steps = refl; left = inl refl }

pub HasStopped-run : (fault : RunFault) (bytes : List ℕ) (old new : Server) → HasStopped fault bytes old new → HasRun bytes old new
HasStopped-run Read bytes old new stopped = absurd stopped
HasStopped-run Write bytes old new stopped = absurd stopped
HasStopped-run Endless bytes old new stopped = stopped.0
HasStopped-run Memory bytes old new stopped = stopped

pub HasStopped-endless : (fault : RunFault) (bytes : List ℕ) (old new : Server) → HasStopped fault bytes old new → fault ≡ Endless
    → 2 ^ 32 < length (lines_of bytes)
HasStopped-endless Read bytes old new stopped is = absurd stopped
HasStopped-endless Write bytes old new stopped is = absurd stopped
HasStopped-endless Endless bytes old new stopped is = stopped.1
HasStopped-endless Memory bytes old new stopped is = absurd (cc is)

pub HasStopped-unread : (fault : RunFault) (bytes : List ℕ) (old new : Server) → HasStopped fault bytes old new → fault ≢ Read
HasStopped-unread fault bytes old new stopped is = subst (λ f. HasStopped f bytes old new) is stopped

pub HasStopped-unwritten : (fault : RunFault) (bytes : List ℕ) (old new : Server) → HasStopped fault bytes old new → fault ≢ Write
HasStopped-unwritten fault bytes old new stopped is = subst (λ f. HasStopped f bytes old new) is stopped

module _ (s bytes : List ℕ) (old new : Server) (runs : HasRun bytes old new) (held held_after left_after : Option (List ℕ)) (calls calls_after : Reads) where
  -- a run that stops before anything is written
  unwritten_run : (fault : RunFault) → fault ≢ Write → Appends held held_after []
      → (fault ≡ Endless → (2 ^ 32 < length (lines_of bytes)) ⊎ (IsPastReads (2 ^ 40) bytes calls calls_after × (new ≡ old))) → (fault ≡ Read → new ≡ old) →
      SlicesOver s bytes old new held held_after left_after calls calls_after (Err fault)
  unwritten_run fault other nothing endless unread = record {
    runs = runs;
    written = λ ok. absurd (cc ok);
    stopped = λ is. absurd (other (cc is));
    unwritten = λ f is not_write. nothing;
    behind = λ either. ⊎_elim (λ ok. absurd (cc ok)) (λ is. absurd (other (cc is))) either;
    same = told_as_sliced (settings old) (states old) s bytes;
    between = told_between (settings old) (states old) bytes s;
    endless = λ is. endless (cc is);
    unread = λ is. unread (cc is);
    all_read = λ ok. absurd (cc ok);
    counted = tt;
  }

  pub SlicesOver-unwritten : (fault : RunFault) (result : Result Summary RunFault) → result ≡ Err fault → fault ≢ Write → held_after ≡ held
      → (fault ≡ Endless → (2 ^ 32 < length (lines_of bytes)) ⊎ (IsPastReads (2 ^ 40) bytes calls calls_after × (new ≡ old))) → (fault ≡ Read → new ≡ old) →
      SlicesOver s bytes old new held held_after left_after calls calls_after result
  SlicesOver-unwritten fault result is other same endless unread =
      subst (SlicesOver s bytes old new held held_after left_after calls calls_after) (sym is)
      (unwritten_run fault other (subst (λ h. Appends held h []) (sym same) (Appends-nil held)) endless unread)

  -- one whose sink failed
  pub SlicesOver-write : (result : Result Summary RunFault) → result ≡ Err Write → AppendsSome held held_after (sliced (settings old) (states old) s bytes)
      → states new ≡ world_of (settings old) (states old) bytes → IsFalse (was_refused new) →
      SlicesOver s bytes old new held held_after left_after calls calls_after result
  SlicesOver-write result is some behind found = subst (SlicesOver s bytes old new held held_after left_after calls calls_after) (sym is) (record {
    runs = runs;
    written = λ ok. absurd (cc ok);
    stopped = λ same. some;
    unwritten = λ fault same other. absurd (other (cc same));
    behind = λ either. (behind, found);
    same = told_as_sliced (settings old) (states old) s bytes;
    between = told_between (settings old) (states old) bytes s;
    endless = λ same. absurd (cc same);
    unread = λ same. absurd (cc same);
    all_read = λ ok. absurd (cc ok);
    counted = tt;
  })

  -- and one that came to its end
  pub SlicesOver-done : (summary : Summary) → Appends held held_after (sliced (settings old) (states old) s bytes)
      → states new ≡ world_of (settings old) (states old) bytes → IsFalse (was_refused new) → left_after ≡ Some [] → summary.lines ≡ length (lines_of bytes)
      → summary.lines ≤ 2 ^ 32 →
      SlicesOver s bytes old new held held_after left_after calls calls_after (Ok summary)
  SlicesOver-done summary written behind found left lines most = record {
    runs = runs;
    written = λ ok. written;
    stopped = λ same. absurd (cc same);
    unwritten = λ fault same other. absurd (cc same);
    behind = λ either. (behind, found);
    same = told_as_sliced (settings old) (states old) s bytes;
    between = told_between (settings old) (states old) bytes s;
    endless = λ same. absurd (cc same);
    unread = λ same. absurd (cc same);
    all_read = λ ok. left;
    counted = (lines, most);
  }

-- all lines are taken
module _ (bytes : List ℕ) (old : Server) (now : Noted) (count : ℕ) (taken : HasTaken bytes old now count []) where
  all_lines : lines_of bytes ≡ taken.lines
  all_lines = taken.reads ∙ ap (λ l. taken.lines ++ l) lines_of-empty ∙ append-nil taken.lines

  all_commands : commands_in taken.lines ≡ commands_of (pieces_of bytes)
  all_commands = ap commands_in (sym all_lines) ∙ sym (commands_in-lines bytes)

  pub HasTaken-counted : count ≡ length (lines_of bytes)
  HasTaken-counted = taken.counted ∙ ap length (sym all_lines)

  pub HasTaken-settings : settings now.server ≡ settings old
  HasTaken-settings = steps_settings old now.server (commands_in taken.lines) taken.entries taken.steps

  pub HasTaken-world : IsFalse (was_refused now.server) → states now.server ≡ world_of (settings old) (states old) bytes
  unfolding world_of
  HasTaken-world found = let steps = subst (λ ts. AreSteps old ts taken.entries now.server) all_commands taken.steps in
      (steps_world old now.server (commands_of (pieces_of bytes)) taken.entries steps found).states

  started : map (line_at bytes) now.starts ≡ command_lines bytes
  started = taken.begins ∙ ap (filter is_command) (sym all_lines)

  -- and the numbers that the notes give are those of the slice
  module _ (s numbers : List ℕ) (found : IsFalse (was_refused now.server))
      (kept : numbers ≡ marked_from 0 (back (machine (settings now.server)) s (map (named (names now.server)) now.notes)).marks) where
    of_slice : numbers ≡ marked_from 0 (slice (machine (settings old)) s (states old) (commands_of (pieces_of bytes))).marks
    of_slice =
        let gives : back (machine (settings now.server)) s (map (named (names now.server)) now.notes)
        ≡ slice (machine (settings now.server)) s (states old) (commands_in taken.lines) =
        notes_give_slice (machine (settings now.server)) (lawful (settings now.server)) s (states old) (commands_in taken.lines)
        (map (named (names now.server)) now.notes) (taken.right found).right in
        kept
        ∙ ap (λ (found : Slice (List ℕ)). marked_from 0 found.marks) gives
        ∙ ap₂ (λ (settings : Settings) (ts : List (Tagged (List ℕ) Asked)). marked_from 0 (slice (machine settings) s (states old) ts).marks) HasTaken-settings
        all_commands

    pub HasTaken-within : All (λ number. number < length now.starts) numbers
    HasTaken-within = numbers-within (settings old) (states old) s bytes now.starts started numbers of_slice

    pub HasTaken-text : flat_map (numbered bytes now.starts) numbers ≡ sliced (settings old) (states old) s bytes
    HasTaken-text = numbers-text (settings old) (states old) s bytes now.starts started numbers of_slice

-- a device that has not failed, where that is not the fault
pub WriteFails-other : {T : Type 0} (old new : ℕ) (fault : RunFault) (r : Result T RunFault) → r ≡ Err fault → fault ≢ Write → new ≡ old → WriteFails old new r
WriteFails-other {T = T} old new fault r is other same = subst (WriteFails old new) (sym is) (by fault other)
  where
    by : (fault : RunFault) → fault ≢ Write → WriteFails {T = T} old new (Err fault)
    by Read other = same
    by Write other = absurd (other refl)
    by Endless other = same
    by Memory other = same
