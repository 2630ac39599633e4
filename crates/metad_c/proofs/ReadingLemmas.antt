-- JSON that is no object is no command of any session.
use Rattle.std.proofs.Common.{◌≡◌, ℕ, List, Some, None, Err, refl}
use Rattle.serde_json.specs.Data.{Data, Members, object}
use Rattle.serde_json.specs.Find.{as_object}
use Rattle.json_reading.specs.Fields.{text_at}
use Rattle.wire_commands.specs.Commands.{asked_of}
use Rattle.wire_format.specs.Command.{given_by, not_a_command}

pub no_object_for : (session : List ℕ) (json : Data) → None ≡ as_object json → given_by session json ≡ Err (not_a_command (Some session))
unfolding asked_of text_at
no_object_for session (object held) none = absurd (cc)
no_object_for session other none = refl

pub an_object : (json : Data) (members : Members) → Some members ≡ as_object json → json ≡ object members
an_object (object held) found same = cc
an_object other found same = absurd (cc)
