-- An input in pieces, each a command or a fault.
use Rattle.std.specs.Prelude.{Bool, if◌then◌else◌, List, [], ◌∷◌, filter}
use Rattle.isolation.specs.Machine.{Machine, Tagged}
use Rattle.isolation.specs.World.{effect, after}

-- A piece of the input: a command of a session, or a fault. A fault changes no state.
pub data Piece (Name Command Fault : Type 0) : Type 0 where
  Given : (t : Tagged Name Command) → Piece Name Command Fault
  Faulty : (fault : Fault) → Piece Name Command Fault

-- The answer to a piece: the lines of its command, for its session, or the fault.
pub data Answer (Name Line Fault : Type 0) : Type 0 where
  Told : (session : Name) (lines : List Line) → Answer Name Line Fault
  Blamed : (fault : Fault) → Answer Name Line Fault

-- The commands in an input.
abbrev pub commands_of : {Name Command Fault : Type 0} → List (Piece Name Command Fault) → List (Tagged Name Command)
commands_of [] = []
commands_of (Given t ∷ pieces) = t ∷ commands_of pieces
commands_of (Faulty fault ∷ pieces) = commands_of pieces

-- A command passes if its session passes, and a fault if it passes its own test.
abbrev pub piece_passes : {Name Command Fault : Type 0} → (Name → Bool) → (Fault → Bool) → Piece Name Command Fault → Bool
piece_passes keep passes (Given t) = keep t.session
piece_passes keep passes (Faulty fault) = passes fault

-- An answer passes if its session passes, or its fault passes.
abbrev pub answer_passes : {Name Line Fault : Type 0} → (Name → Bool) → (Fault → Bool) → Answer Name Line Fault → Bool
answer_passes keep passes (Told session lines) = keep session
answer_passes keep passes (Blamed fault) = passes fault

-- The pieces that pass.
abbrev pub only_pieces : {Name Command Fault : Type 0} → (Name → Bool) → (Fault → Bool) → List (Piece Name Command Fault) → List (Piece Name Command Fault)
only_pieces keep passes pieces = filter (piece_passes keep passes) pieces

-- The answers that pass.
abbrev pub only_answers : {Name Line Fault : Type 0} → (Name → Bool) → (Fault → Bool) → List (Answer Name Line Fault) → List (Answer Name Line Fault)
only_answers keep passes answers = filter (answer_passes keep passes) answers

module _ {Name State Command Line Post : Type 0} (m : Machine Name State Command Line Post) where
  -- The answers to the pieces of an input, in order.
  abbrev pub piece_answers : {Fault : Type 0} → (Name → State) → List (Piece Name Command Fault) → List (Answer Name Line Fault)
  piece_answers world [] = []
  piece_answers world (Given t ∷ pieces) = Told t.session (effect m world t).lines ∷ piece_answers (after m world t) pieces
  piece_answers world (Faulty fault ∷ pieces) = Blamed fault ∷ piece_answers world pieces

  -- What `s` receives: the answers to its commands, and the faults that the test counts as its own.
  abbrev pub said : {Fault : Type 0} → Name → (Fault → Bool) → List (Answer Name Line Fault) → List (Answer Name Line Fault)
  said s its_own answers = only_answers (m.same s) its_own answers

  -- The lines of the commands of `s`.
  abbrev pub told : {Fault : Type 0} → Name → List (Answer Name Line Fault) → List (List Line)
  told s [] = []
  told s (Told session lines ∷ answers) = if m.same s session then lines ∷ told s answers else told s answers
  told s (Blamed fault ∷ answers) = told s answers
