-- The output for an input.
use Rattle.std.specs.Prelude.{◌≡◌, ℕ, Bool, true, List, [], ◌∷◌, map, filter, bytes_eq, Option, Some, None}
use Rattle.std.specs.List.{flat_map}
use Rattle.isolation.specs.Influence.{IsClosed, KnowsAll, influences}
use Rattle.isolation.specs.Pieces as pieces
use Rattle.isolation.specs.Pieces.{Given, Faulty, Told, Blamed, commands_of, piece_answers}
use Rattle.isolation.specs.World.{effect, after, world_after}
use Rattle.session_model.specs.declared.line.Line.{Line}
use Rattle.session_model.specs.declared.line.Line.TheVariants.{Error}
use Rattle.session_model.specs.State.{State}
use Rattle.session_model.specs.Machine.{machine}
use Rattle.session_model.specs.Thread.{Settings}
use Rattle.wire_format.specs.declared.fault.LineFault.{LineFault}
use Rattle.wire_format.specs.Input.{Piece, pieces_of, without}
use Rattle.wire_format.specs.Text.{blamed, text_of_line}

-- All sessions, by their names.
abbrev pub World : Type 0
World = List ℕ → State

-- The answer to a piece.
abbrev pub Answer : Type 0
Answer = pieces.Answer (List ℕ) Line LineFault

-- A line that is written, and the session that it names.
pub record Said : Type 0 where
  pub session : List ℕ
  pub text : List ℕ

abbrev pub said_by : List ℕ → Line → Said
said_by session line = record { session = session; text = text_of_line session line }

-- The lines that are written for an answer.
abbrev pub said_in : Answer → List Said
said_in (Told session lines) = map (said_by session) lines
said_in (Blamed fault) = said_by (blamed fault) (Error fault.code) ∷ []

abbrev pub text_of_said : List Said → List ℕ
text_of_said lines = flat_map (λ line. line.text) lines

-- The answers to the pieces of an input, in order.
abbrev pub answers_to : Settings → World → List ℕ → List Answer
answers_to settings world bytes = piece_answers (machine settings) world (pieces_of bytes)

-- The lines that are written for an input, in order.
unfoldable pub said_all : Settings → World → List ℕ → List Said
said_all settings world bytes = flat_map said_in (answers_to settings world bytes)

-- The output for an input.
unfoldable pub output : Settings → World → List ℕ → List ℕ
output settings world bytes = text_of_said (said_all settings world bytes)

-- The states of the sessions after an input.
unfoldable pub world_of : Settings → World → List ℕ → World
world_of settings world bytes = world_after (machine settings) world (commands_of (pieces_of bytes))

-- The lines that name a session.
abbrev pub lines_said_to : List ℕ → List Said → List Said
lines_said_to session lines = filter (λ line. bytes_eq session line.session) lines

-- The text for one piece.
unfoldable pub text_of_piece : Settings → World → Option Piece → List ℕ
text_of_piece settings world None = []
text_of_piece settings world (Some (Given given)) = flat_map (text_of_line given.session) (effect (machine settings) world given).lines
text_of_piece settings world (Some (Faulty fault)) = text_of_line (blamed fault) (Error fault.code)

unfoldable pub world_after_piece : Settings → World → Option Piece → World
world_after_piece settings world None = world
world_after_piece settings world (Some (Given given)) = after (machine settings) world given
world_after_piece settings world (Some (Faulty fault)) = world

-- Leaving out the lines of sessions that no kept session joins changes nothing that a kept session receives.
abbrev pub LeavingOutLines : Type 0
LeavingOutLines =
    (settings : Settings) (keep : List ℕ → Bool) (world : World) (bytes : List ℕ) →
    IsClosed (machine settings) keep world (commands_of (pieces_of bytes)) →
    (s : List ℕ) → keep s ≡ true →
    lines_said_to s (said_all settings world (without keep bytes)) ≡ lines_said_to s (said_all settings world bytes)

-- A session does not notice the lines of sessions to which no chain of joins leads from it.
abbrev pub LeavingOutStrangers : Type 0
LeavingOutStrangers =
    (settings : Settings) (world : World) (known : List (List ℕ)) (bytes : List ℕ) →
    KnowsAll (machine settings) world known → (s : List ℕ) →
    let keep = influences (machine settings) world known (commands_of (pieces_of bytes)) s in
    lines_said_to s (said_all settings world (without keep bytes)) ≡ lines_said_to s (said_all settings world bytes)
