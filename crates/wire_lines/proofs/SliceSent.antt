-- How a run for a slice ends once all lines of its input are taken.
use Rattle.std.proofs.Common.{◌≡◌, inl, ℕ, ◌≤◌, ◌^◌, List, [], map, Option, Some, Result, Ok, Err, IsFalse, false, refl, ap₂, ◌∙◌, subst}
use Rattle.std.specs.List.{flat_map}
use Rattle.isolation.specs.Slice.{back}
use Rattle.server_world.specs.Noting.{marked_from, named}
use Rattle.server_world.specs.Server.{Server, names, settings, states, was_refused}
use Rattle.session_model.specs.Machine.{machine}
use Rattle.wire_lines.specs.declared.fault.RunFault.{RunFault}
use Rattle.wire_lines.specs.declared.fault.RunFault.TheVariants.{Memory, Write}
use Rattle.wire_lines.specs.declared.stream.Summary.{Summary}
use Rattle.wire_lines.specs.Run.{Reads}
use Rattle.wire_lines.specs.Sending.{Sent, SentFront, out}
use Rattle.wire_lines.specs.Slicing.{HasRun, SlicesOver, sliced}
use Rattle.wire_lines.specs.Taking.{HasTaken, Noted, numbered}
use Rattle.wire_lines.proofs.SliceEnds.{HasTaken-counted, HasTaken-text, HasTaken-world, SlicesOver-done, SlicesOver-unwritten, SlicesOver-write}
use Rattle.wire_lines.proofs.Taken.{HasRun-taken}
use Rattle.wire_lines.proofs.Whole.{all_written, front_written}

module _ (s bytes input : List ℕ) (whole : bytes ≡ input) (old : Server) (now : Noted) (count : ℕ) (bytes_taken : HasTaken bytes old now count [])
    (held left_after : Option (List ℕ)) (calls calls_after : Reads) where
  taken : HasTaken input old now count []
  taken = subst (λ (bytes : List ℕ). HasTaken bytes old now count []) whole bytes_taken

  has_run : HasRun input old now.server
  has_run = HasRun-taken input old now count [] taken now.server (inl refl)

  -- where memory was wanted, nothing is written
  pub SlicesOver-wanting : (result : Result Summary RunFault) → result ≡ Err Memory
      → SlicesOver s input old now.server held held left_after calls calls_after result
  SlicesOver-wanting result is = SlicesOver-unwritten s input old now.server has_run held held left_after calls calls_after Memory result is
      (λ other. absurd (cc other)) refl (λ other. absurd (cc other)) (λ other. absurd (cc other))

  -- and otherwise the lines of the slice
  module _ (found : IsFalse (was_refused now.server)) (again numbers chosen : List ℕ) (also : again ≡ input) (same : numbers ≡ chosen)
      (kept : chosen ≡ marked_from 0 (back (machine (settings now.server)) s (map (named (names now.server)) now.notes)).marks)
      (after : Option (List ℕ)) (gathered left : List ℕ) (none : gathered ≡ []) where
    abbrev the_slice : List ℕ
    the_slice = sliced (settings old) (states old) s input

    text_is : flat_map (numbered again now.starts) numbers ≡ the_slice
    text_is = ap₂ (λ (bytes numbers : List ℕ). flat_map (numbered bytes now.starts) numbers) also same
        ∙ HasTaken-text input old now count taken s chosen found kept

    -- or a front of them, where the sink failed
    pub SlicesOver-front : (result : Result Summary RunFault) → result ≡ Err Write
        → SentFront (out held gathered) (out after left) (flat_map (numbered again now.starts) numbers)
        → SlicesOver s input old now.server held after left_after calls calls_after result
    SlicesOver-front result is sent =
        SlicesOver-write s input old now.server has_run held after left_after calls calls_after result is
        (front_written held after left the_slice (subst (λ (gathered : List ℕ). SentFront (out held gathered) (out after left) the_slice) none
        (subst (SentFront (out held gathered) (out after left)) text_is sent)))
        (HasTaken-world input old now count taken found) found

    pub SlicesOver-sent : left ≡ [] → Sent (out held gathered) (out after left) (flat_map (numbered again now.starts) numbers) → left_after ≡ Some []
        → count ≤ 2 ^ 32
        → SlicesOver s input old now.server held after left_after calls calls_after (Ok (record { lines = count; memory_refused = false }))
    SlicesOver-sent emptied sent read within =
        SlicesOver-done s input old now.server has_run held after left_after calls calls_after (record { lines = count; memory_refused = false })
        (all_written held after left the_slice emptied (subst (λ (gathered : List ℕ). Sent (out held gathered) (out after left) the_slice) none
        (subst (Sent (out held gathered) (out after left)) text_is sent)))
        (HasTaken-world input old now count taken found) found read (HasTaken-counted input old now count taken) within
