-- The step of a run that answers one line.
use Rattle.std.proofs.Common.{◌≡◌, ℕ, ◌+◌, ◌≤◌, true, false, List, [], ◌∷◌, ◌++◌, length, map, Result, Ok, Err, refl, sym, ap, ◌∙◌, subst, arith, append_assoc}
use Rattle.std.specs.Prelude.{Option, Some}
use Rattle.server_world.specs.Server.{Server}
use Rattle.wire_format.specs.Command.{command_of, is_blank}
use Rattle.wire_format.specs.Input.{NoEnd, Piece, piece_from, piece_of}
use Rattle.wire_format.proofs.ForCallers.{piece_of-blank, lines_of-line}
use Rattle.wire_lines.specs.declared.fault.RunFault.{RunFault}
use Rattle.wire_lines.specs.declared.fault.RunFault.TheVariants.{Read, Write, Endless, Memory}
use Rattle.wire_lines.specs.Sending.{Out, Sent, SentAll}
use Rattle.wire_lines.specs.Steps.{IsAnswered, read_lines}
use Rattle.wire_lines.specs.Stream.{Point, Fed, SentUntil, Cut, IsOver, IsStuck, IsStuckBy, StuckIn, Feeds, SendFails}
use Rattle.wire_lines.proofs.Answering.{AreAnswered-one}
use Rattle.wire_lines.proofs.Feeding.{Cut-silent}
use Rattle.wire_lines.proofs.Sent.{Sent-nothing}

-- a line that is not blank is what it is read as
piece_of-read : (line : List ℕ) → is_blank line ≡ false → piece_of line ≡ Some (piece_from (command_of line))
unfolding piece_of
piece_of-read line more = rw more

-- the points before and after a line
abbrev pub before_line : Server → Out → ℕ → List ℕ → Point
before_line server out lines line = record { server = server; out = out; lines = lines; begun = line ++ 10 ∷ [] }

abbrev pub after_line : Server → Out → ℕ → Point
after_line server out lines = record { server = server; out = out; lines = lines + 1; begun = [] }

-- a line in front of what follows
first_read : (line rest : List ℕ) → NoEnd line → read_lines ((line ++ 10 ∷ []) ++ rest) ≡ piece_of line ∷ read_lines rest
first_read line rest no_end = ap read_lines (append_assoc line (10 ∷ []) rest) ∙ ap (map piece_of) (lines_of-line line rest no_end)

module _ (old new : Server) (before after : Out) (lines : ℕ) (line : List ℕ) (no_end : NoEnd line) where
  pub Fed-line : (text : List ℕ) → IsAnswered old (piece_of line) text new → Sent before after text
      → Fed (before_line old before lines line) (after_line new after lines)
  Fed-line text answered sent = record {
    lines = piece_of line ∷ [];
    text = text;
    reads = λ rest. first_read line rest no_end;
    answered = AreAnswered-one old new (piece_of line) text answered;
    sent = sent;
    counted = omega arith;
  }

  pub Cut-line : (fault : RunFault) (text : List ℕ) → IsAnswered old (piece_of line) text new → SentUntil fault before after text
      → StuckIn fault old (piece_of line ∷ []) new before after → (rest : List ℕ)
      → Cut fault (before_line old before lines line) (after_line new after lines) rest
  Cut-line fault text answered sent stuck rest = record {
    lines = piece_of line ∷ [];
    behind = read_lines rest;
    text = text;
    reads = first_read line rest no_end;
    answered = AreAnswered-one old new (piece_of line) text answered;
    sent = sent;
    counted = omega arith;
    stuck = stuck;
  }

  -- it is the last one, and found no memory for its text
  stuck_line : (piece : Option Piece) → IsStuckBy [] (λ text. IsAnswered old piece text new) before after → IsStuck old (piece ∷ []) new before after
  stuck_line piece stuck = record { first = []; last = piece; between = old; said = []; lines_are = refl; answered = (refl, refl); stuck = stuck }

  -- the line was served
  pub Feeds-served : {T : Type 0} (most f f' : ℕ) (r : Result T RunFault) (text : List ℕ) → is_blank line ≡ false →
      IsAnswered old (Some (piece_from (command_of line))) text new → SentAll before after r text →
      SendFails f f' r → (r ≡ Err Memory → IsStuckBy [] (λ text. IsAnswered old (Some (piece_from (command_of line))) text new) before after) →
      Feeds most (before_line old before lines line) (after_line new after lines) r
  Feeds-served most f f' r text more answered sent fails stuck = by r sent fails stuck
    where
      stuck_here : IsStuckBy [] (λ text. IsAnswered old (Some (piece_from (command_of line))) text new) before after
          → IsStuck old (piece_of line ∷ []) new before after
      stuck_here stuck = subst (λ p. IsStuck old (p ∷ []) new before after) (sym (piece_of-read line more))
          (stuck_line (Some (piece_from (command_of line))) stuck)

      read : IsAnswered old (piece_of line) text new
      read = subst (λ p. IsAnswered old p text new) (sym (piece_of-read line more)) answered

      by : {T : Type 0} (r : Result T RunFault) → SentAll before after r text → SendFails f f' r
          → (r ≡ Err Memory → IsStuckBy [] (λ text. IsAnswered old (Some (piece_from (command_of line))) text new) before after)
          → Feeds most (before_line old before lines line) (after_line new after lines) r
      by (Ok done) sent fails stuck = Fed-line text read sent
      by (Err Read) sent fails stuck = absurd fails
      by (Err Endless) sent fails stuck = absurd fails
      by (Err Write) sent fails stuck = Cut-line Write text read sent tt
      by (Err Memory) sent fails stuck = Cut-line Memory text read sent (stuck_here (stuck refl))

-- a blank line is only counted
pub Fed-blank : (server : Server) (out : Out) (lines : ℕ) (line : List ℕ) → NoEnd line → is_blank line ≡ true
    → Fed (before_line server out lines line) (after_line server out lines)
Fed-blank server out lines line no_end blank =
    Fed-line server server out out lines line no_end []
    (subst (λ p. IsAnswered server p [] server) (sym (piece_of-blank line blank)) (refl, refl)) (Sent-nothing out)

-- a line above the bound is not answered
pub Cut-nothing : (server : Server) (out : Out) (lines : ℕ) (begun rest : List ℕ)
    → Cut Endless (record { server = server; out = out; lines = lines; begun = begun }) (record { server = server; out = out; lines = lines; begun = [] }) rest
Cut-nothing server out lines begun rest =
    Cut-silent Endless (record { server = server; out = out; lines = lines; begun = begun })
    (record { server = server; out = out; lines = lines; begun = [] }) rest refl refl
    (Sent-nothing out) tt

pub IsOver-line : (most lines : ℕ) (server : Server) (out : Out) (line rest : List ℕ) → NoEnd line → lines ≤ most → most ≤ lines →
    IsOver most (before_line server out lines line) (record { server = server; out = out; lines = lines; begun = [] }) rest
IsOver-line most lines server out line rest no_end within full =
    let one = ap length (first_read line rest no_end) in
    (omega (arith, within, full), omega (arith, one))
