-- The command of a line for a session that the host program names.
use Rattle.std.specs.Prelude.{ℕ, List, if◌then◌else◌, Option, Some, None, Result, Ok, Err}
use Rattle.serde_json.specs.Data.{Data}
use Rattle.isolation.specs.Machine.{Tagged}
use Rattle.session_model.specs.Asked.{Asked}
use Rattle.wire_format.specs.declared.fault.LineFault.{LineFault}
use Rattle.wire_format.specs.Command.{given_by, is_blank, json_in}
use Rattle.wire_format.specs.Input.{Piece, piece_from}

-- The command of this session that is in the JSON, whichever session the JSON names. A fault is this session's too.
abbrev pub command_for_by : List ℕ → Result Data LineFault → Result (Tagged (List ℕ) Asked) LineFault
command_for_by session (Ok json) = given_by session json
command_for_by session (Err fault) = Err (record { code = fault.code; session = Some session })

-- The command of this session in a line.
unfoldable pub command_for : List ℕ → List ℕ → Result (Tagged (List ℕ) Asked) LineFault
command_for session line = command_for_by session (json_in line)

-- The piece for a line. A blank line is not a piece.
unfoldable pub piece_for : List ℕ → List ℕ → Option Piece
piece_for session line = if is_blank line then None else Some (piece_from (command_for session line))
