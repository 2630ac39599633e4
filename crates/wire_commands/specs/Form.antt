-- The form of a command.
use Rattle.std.specs.Prelude.{◌≡◌, ℕ, List, Option, bytes_eq, option_map}
use Rattle.std.specs.List.{find}
use Rattle.serde_json.specs.Data.{Data, object}
use Rattle.json_reading.specs.Fields.{◌>>=◌}
use Rattle.json_reading.specs.declared.field.Member.{Member}
use Rattle.json_reading.specs.Members.{members_in}
use Rattle.session_model.specs.Asked.{Asked, asked}
use Rattle.session_model.specs.declared.command.Command.{Command}
use Rattle.wire_commands.specs.Held.{Held, held_by}
use Rattle.wire_commands.specs.Keys.{Key}

-- The word of a command, its keys (except those that every command has), and the command for the values at these keys.
pub record Form : Type 0 where
  pub word : List ℕ
  pub keys : List Key
  pub asks : List Held → Option Asked

-- The command in JSON, read by a form.
unfoldable pub asked_in : Form → Data → Option Asked
asked_in form json = held_by json form.keys >>= form.asks

-- Each form with these keys reads JSON as the command for these values, if there are values.
abbrev pub AreHeld : List Key → Data → Option (List Held) → Type 0
AreHeld keys json held = (form : Form) → form.keys ≡ keys → asked_in form json ≡ (held >>= form.asks)

-- The form of a word.
abbrev pub form_named : List Form → List ℕ → Option Form
form_named forms word = find (λ form. bytes_eq word form.word) forms

-- The command in JSON, read by the form of a word.
unfoldable pub asked_by : List Form → List ℕ → Data → Option Asked
asked_by forms word json = form_named forms word >>= λ form. asked_in form json

-- The command is the one that the members give by a form.
abbrev pub Asks : Form → List Member → Option Command → Type 0
Asks form members command = option_map asked command ≡ asked_in form (object (members_in members))

-- The command is the one that the members give by the form of a word.
abbrev pub AsksBy : List Form → List ℕ → List Member → Option Command → Type 0
AsksBy forms word members command = option_map asked command ≡ asked_by forms word (object (members_in members))
