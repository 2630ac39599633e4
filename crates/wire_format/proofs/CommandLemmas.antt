-- JSON that is no object is no command.
use Rattle.std.proofs.Common.{◌≡◌, Some, None, Err, refl}
use Rattle.serde_json.specs.Data.{Data, Members, object}
use Rattle.serde_json.specs.Find.{as_object}
use Rattle.json_reading.specs.Fields.{name_at, text_at}
use Rattle.wire_format.specs.Command.{command_in, not_a_command}

pub no_object : (json : Data) → None ≡ as_object json → command_in json ≡ Err (not_a_command None)
unfolding command_in name_at text_at
no_object (object held) none = absurd (cc)
no_object other none = refl

pub an_object : (json : Data) (members : Members) → Some members ≡ as_object json → json ≡ object members
an_object (object held) found same = cc
an_object other found same = absurd (cc)
