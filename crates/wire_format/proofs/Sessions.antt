-- What a line names: its session, and what its command sets, publishes and joins.
use Rattle.std.proofs.Common.{◌≡◌, ℕ, Bool, true, false, List, codes, Option, Some, None, Result, Ok, Err, IfOk, IfSome, IsTrue, length, nat_le, refl, subst}
use Rattle.std.specs.Option.{ok_or, option_map_or}
use Rattle.std.proofs.lemmas.Bool.{cond_both, or_left}
use Rattle.serde_json.specs.Data.{Data}
use Rattle.isolation.specs.Machine.{Tagged}
use Rattle.isolation.specs.Pieces.{Given, Faulty}
use Rattle.json_reading.specs.Fields.{◌>>=◌, when, text_at, name_at}
use Rattle.plain_types.specs.Names.{is_name}
use Rattle.session_model.specs.Asked.{Asked, tag}
use Rattle.session_model.specs.Named.{IsNamedAsked}
use Rattle.session_model.specs.declared.command.Tagged.{Tagged as Command}
use Rattle.wire_commands.specs.Commands.{asked_of}
use Rattle.wire_commands.proofs.NamedLemmas.{asked_named}
use Rattle.wire_format.specs.declared.fault.LineFault.{LineFault}
use Rattle.wire_format.specs.declared.fault.ReadError.{ReadError}
use Rattle.wire_format.specs.declared.fault.ReadError.TheVariants.{Fault, Memory}
use Rattle.wire_format.specs.declared.line.TheConstants.{LINE_BYTES}
use Rattle.wire_format.specs.Command.{Gives, command_by, command_in, command_of, given_by, is_blank, json_in, json_of_line, not_a_command, unreadable}
use Rattle.wire_format.specs.Input.{Piece, piece_from, piece_of}
use Rattle.wire_format.specs.Text.{blamed, is_session_text}

-- a command is for a name, and uses names; a fault is reported to a name, or to `-`
abbrev IsNamed : Result (Tagged (List ℕ) Asked) LineFault → Type 0
IsNamed (Ok given) = (is_name given.session ≡ true) × IsNamedAsked given.command
IsNamed (Err fault) = IsTrue (is_session_text (blamed fault))

-- what is found at a key as a name is one
name_found : (text : Option (List ℕ)) → IfSome (text >>= λ t. when (is_name t) t) (λ name. is_name name ≡ true)
name_found None = tt
name_found (Some text) = by (is_name text) refl
  where
    by : (is : Bool) → is_name text ≡ is → IfSome (when is text) (λ name. is_name name ≡ true)
    by true named = named
    by false other = tt

name_at_named : (key : List ℕ) (json : Data) → IfSome (name_at key json) (λ name. is_name name ≡ true)
unfolding name_at
name_at_named key json = name_found (text_at key json)

given_named : (session : List ℕ) (asked : Option Asked) → is_name session ≡ true → IfSome asked IsNamedAsked
    → IsNamed (option_map_or (λ command. Ok (record { session = session; command = command })) asked (Err (not_a_command (Some session))))
given_named session None name named = or_left _ _ name
given_named session (Some asked) name named = (name, named)

session_named : (json : Data) (session : Option (List ℕ)) → IfSome session (λ name. is_name name ≡ true)
    → IsNamed (option_map_or (λ name. given_by name json) session (Err (not_a_command None)))
session_named json None name = refl
session_named json (Some session) name = given_named session (asked_of json) name (asked_named json)

json_named : (json : Option Data) → IsNamed (command_by (ok_or json unreadable))
unfolding command_in
json_named None = refl
json_named (Some json) = session_named json (name_at (codes "session") json) (name_at_named (codes "session") json)

line_named : (line : List ℕ) → IsNamed (command_of line)
unfolding command_of json_in
line_named line = cond_both (nat_le (length line) LINE_BYTES) (ok_or (json_of_line line) unreadable) (Err unreadable) (λ json. IsNamed (command_by json))
    (λ short. json_named (json_of_line line)) (λ long. refl)

-- the session of a command is a name
pub session_is_name : (line : List ℕ) (given : Tagged (List ℕ) Asked) → command_of line ≡ Ok given → is_name given.session ≡ true
session_is_name line given e =
    let named : (is_name given.session ≡ true) × IsNamedAsked given.command = subst IsNamed e (line_named line) in named.0

-- a fault is said for a name, or for `-`
pub blamed_is_session_text : (line : List ℕ) (fault : LineFault) → command_of line ≡ Err fault → IsTrue (is_session_text (blamed fault))
blamed_is_session_text line fault e = subst IsNamed e (line_named line)

-- a command that is read uses names
pub read_named : (line : List ℕ) (result : Result Command ReadError) → Gives tag result (command_of line)
    → IfOk result (λ given. IsNamedAsked (tag given).command)
read_named line (Ok given) gives =
    let named : (is_name (tag given).session ≡ true) × IsNamedAsked (tag given).command = subst IsNamed gives (line_named line) in named.1
read_named line (Err (Fault fault)) gives = tt
read_named line (Err Memory) gives = tt

-- so does the command of a piece
abbrev pub IsNamedPiece : Piece → Type 0
IsNamedPiece (Given given) = IsNamedAsked given.command
IsNamedPiece (Faulty fault) = Unit {0}

pub piece_named : (line : List ℕ) → IfSome (piece_of line) IsNamedPiece
unfolding piece_of
piece_named line = cond_both (is_blank line) None (Some (piece_from (command_of line))) (λ piece. IfSome piece IsNamedPiece) (λ blank. tt)
    (λ not_blank. by (command_of line) (line_named line))
  where
    by : (read : Result (Tagged (List ℕ) Asked) LineFault) → IsNamed read → IsNamedPiece (piece_from read)
    by (Ok given) named = named.1
    by (Err fault) named = tt
