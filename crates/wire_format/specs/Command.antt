-- The meaning of a line: a command of a session, or a fault.
use Rattle.std.specs.Prelude.{◌≡◌, ◌==◌, ◌&&◌, ◌||◌, ℕ, Bool, List, length, codes, nat_le, if◌then◌else◌, Option, Some, None, Result, Ok, Err}
use Rattle.std.specs.List.{list_all}
use Rattle.std.specs.Option.{option_map_or, ok_or}
use Rattle.std.specs.Str.{is_utf8}
use Rattle.serde_json.specs.Data.{Data}
use Rattle.serde_json.specs.Read.{read}
use Rattle.isolation.specs.Machine.{Tagged}
use Rattle.plain_types.specs.declared.code.Code.TheVariants.{UnreadableLine, NotACommand}
use Rattle.session_model.specs.Asked.{Asked}
use Rattle.wire_format.specs.declared.fault.LineFault.{LineFault}
use Rattle.wire_format.specs.declared.fault.ReadError.{ReadError}
use Rattle.wire_format.specs.declared.fault.ReadError.TheVariants.{Fault, Memory}
use Rattle.wire_format.specs.declared.line.TheConstants.{LINE_BYTES}
use Rattle.json_reading.specs.Fields.{name_at}
use Rattle.wire_commands.specs.Commands.{asked_of}

-- The JSON in a line.
abbrev pub json_of_line : List ℕ → Option Data
json_of_line line = if is_utf8 line then read line else None

-- The fault of a line that is too long, not UTF-8 or not JSON.
abbrev pub unreadable : LineFault
unreadable = record { code = UnreadableLine; session = None }

-- The fault of a line that is JSON but not a command.
abbrev pub not_a_command : Option (List ℕ) → LineFault
not_a_command session = record { code = NotACommand; session = session }

unfoldable pub json_in : List ℕ → Result Data LineFault
json_in line = if nat_le (length line) LINE_BYTES then ok_or (json_of_line line) unreadable else Err unreadable

-- The command in JSON, for this session.
abbrev pub given_by : List ℕ → Data → Result (Tagged (List ℕ) Asked) LineFault
given_by session json = option_map_or (λ command. Ok (record { session = session; command = command })) (asked_of json) (Err (not_a_command (Some session)))

-- The command in JSON, for the session that it names.
unfoldable pub command_in : Data → Result (Tagged (List ℕ) Asked) LineFault
command_in json = option_map_or (λ session. given_by session json) (name_at (codes "session") json) (Err (not_a_command None))

-- The command in a line, if the line can be read.
abbrev pub command_by : Result Data LineFault → Result (Tagged (List ℕ) Asked) LineFault
command_by (Ok json) = command_in json
command_by (Err fault) = Err fault

-- The command in a line.
unfoldable pub command_of : List ℕ → Result (Tagged (List ℕ) Asked) LineFault
command_of line = command_by (json_in line)

-- Whether a byte may be in a blank line: space, tab and carriage return.
abbrev pub is_blank_byte : ℕ → Bool
is_blank_byte byte = byte == 32 || byte == 9 || byte == 13

-- Whether a line is blank, and so skipped.
unfoldable pub is_blank : List ℕ → Bool
is_blank line = nat_le (length line) LINE_BYTES && list_all is_blank_byte line

-- The call returns exactly this value, as contracts see it, or this fault, unless memory ran out.
abbrev pub Gives : {T A : Type 0} → (T → A) → Result T ReadError → Result A LineFault → Type 0
Gives seen (Ok value) wanted = wanted ≡ Ok (seen value)
Gives seen (Err (Fault fault)) wanted = wanted ≡ Err fault
Gives seen (Err Memory) wanted = Unit {0}
