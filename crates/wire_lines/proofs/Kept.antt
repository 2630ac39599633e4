-- Steps of a run that keep the front of a line, and that come to the end of the input.
use Rattle.std.proofs.Common.{◌≡◌, ℕ, ◌<◌, List, [], ◌∷◌, ◌++◌, length, map, take, Result, Ok, Err, refl, sym, ap, ◌∙◌, subst, arith, append-nil, append_assoc}
use Rattle.std.proofs.Common.{IsErrAnd}
use Rattle.server_world.specs.Server.{Server}
use Rattle.wire_format.specs.declared.line.TheConstants.{LINE_BYTES}
use Rattle.wire_format.specs.Input.{NoEnd, lines_of, piece_of}
use Rattle.wire_format.proofs.ForCallers.{lines_of-empty, lines_of-line, lines_of-last}
use Rattle.wire_lines.specs.declared.fault.RunFault.{RunFault}
use Rattle.wire_lines.specs.Sending.{Out}
use Rattle.wire_lines.specs.Steps.{AreAnswered, read_lines}
use Rattle.wire_lines.specs.Stream.{Point, Fed, Done, Stops, Feeds, Finishes}
use Rattle.wire_lines.proofs.Sent.{Sent-nothing}
use Rattle.wire_lines.proofs.Long.{read_lines-kept}
use Rattle.wire_lines.proofs.Feeding.{Cut-alike, Done-after, Stops-along}

abbrev pub point : Server → Out → ℕ → List ℕ → Point
point server out lines begun = record { server = server; out = out; lines = lines; begun = begun }

-- only the front of what has begun is kept
pub Fed-kept : (server : Server) (out : Out) (lines n : ℕ) (begun : List ℕ) → NoEnd begun → LINE_BYTES < n
    → Fed (point server out lines begun) (point server out lines (take n begun))
Fed-kept server out lines n begun no_end large = record {
  lines = [];
  text = [];
  reads = λ rest. read_lines-kept n begun rest no_end large;
  answered = (refl, refl);
  sent = Sent-nothing out;
  counted = omega arith;
}

-- nothing has begun at the end of the input
pub Done-nothing : (server : Server) (out : Out) (lines : ℕ) → Done (point server out lines []) (point server out lines [])
Done-nothing server out lines =
    let none : read_lines [] ≡ [] = ap (map piece_of) lines_of-empty in
    record {
      text = [];
      answered = subst (λ lines. AreAnswered server lines [] server) (sym none) (refl, refl);
      sent = Sent-nothing out;
      counted = let zero = ap length none in omega (arith, zero);
    }

same_lines : (line : List ℕ) → NoEnd line → 0 < length line → lines_of (line ++ 10 ∷ []) ≡ lines_of line
same_lines [] no_end some = absurd (omega arith)
same_lines (byte ∷ line) no_end some = lines_of-line (byte ∷ line) [] no_end ∙ ap (λ l. (byte ∷ line) ∷ l) lines_of-empty ∙ sym (lines_of-last byte line no_end)

-- two inputs of the same lines
module _ (a b : List ℕ) (same : read_lines a ≡ read_lines b) where
  Done-by_lines : (server : Server) (out : Out) (lines : ℕ) (end : Point) → Done (point server out lines a) end → Done (point server out lines b) end
  Done-by_lines server out lines end done = record {
    text = done.text;
    answered = subst (λ lines. AreAnswered server lines done.text end.server) same done.answered;
    sent = done.sent;
    counted = let counts = ap length same in omega (arith, counts, done.counted);
  }

  Stops-by_lines : (most : ℕ) (fault : RunFault) (server : Server) (out : Out) (lines : ℕ) (end : Point) → Stops most fault (point server out lines a) end []
      → Stops most fault (point server out lines b) end []
  Stops-by_lines most fault server out lines end stops =
      let all : read_lines (b ++ []) ≡ read_lines (a ++ []) = ap read_lines (append-nil b) ∙ sym same ∙ ap read_lines (sym (append-nil a)) in
      let counts = ap length all in
      Stops-along most fault (point server out lines a) end (point server out lines b) end [] []
      (Cut-alike fault (point server out lines a) end b [] [] all)
      (λ over. (over.0, omega (arith, counts, over.1))) stops

-- a last line is answered as if it had its end
pub Finishes-last : {T : Type 0} (most : ℕ) (old new : Server) (before after : Out) (lines count : ℕ) (line : List ℕ) (r : Result T RunFault) → NoEnd line
    → 0 < length line →
    Feeds most (point old before lines (line ++ 10 ∷ [])) (point new after count []) r
    → Finishes most (point old before lines line) (point new after count []) r
Finishes-last most old new before after lines count line (Ok done) no_end some feeds =
    Done-by_lines (line ++ 10 ∷ []) line (ap (map piece_of) (same_lines line no_end some)) old before lines (point new after count [])
    (Done-after (point old before lines (line ++ 10 ∷ [])) (point new after count []) (point new after count []) feeds (Done-nothing new after count))
Finishes-last most old new before after lines count line (Err fault) no_end some feeds =
    Stops-by_lines (line ++ 10 ∷ []) line (ap (map piece_of) (same_lines line no_end some)) most fault old before lines (point new after count []) (feeds [])

pub length-some : (bytes : List ℕ) → (bytes ≡ [] → ⊥) → 0 < length bytes
length-some [] some = absurd (some refl)
length-some (byte ∷ bytes) some = omega arith

-- what a `?` answers
pub err_is : {T E : Type 0} (r : Result T E) (fault : E) → IsErrAnd r (λ e. e ≡ fault) → r ≡ Err fault
err_is (Ok done) fault h = absurd h
err_is (Err e) fault h = ap Err h

-- a line at the front of what is not yet read
pub line_in_front : (begun rest line behind : List ℕ) → rest ≡ line ++ 10 ∷ behind → begun ++ rest ≡ ((begun ++ line) ++ 10 ∷ []) ++ behind
line_in_front begun rest line behind is =
    ap (λ l. begun ++ l) is ∙ sym (append_assoc begun line (10 ∷ behind)) ∙ sym (append_assoc (begun ++ line) (10 ∷ []) behind)
