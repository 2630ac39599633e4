-- What is asked in a form.
use Rattle.std.proofs.Common.{◌≡◌, ◌∙◌, List, Option, ap, sym}
use Rattle.serde_json.specs.Data.{Data}
use Rattle.json_reading.specs.Fields.{◌>>=◌}
use Rattle.wire_commands.specs.Form.{AreHeld, asked_in}
use Rattle.wire_commands.specs.Held.{Held, held_by}
use Rattle.wire_commands.specs.Keys.{Key}

-- what JSON holds at keys is what it asks with, in each form of these
pub are_held : (json : Data) {keys : List Key} {held : Option (List Held)} → held ≡ held_by json keys → AreHeld keys json held
unfolding asked_in
are_held json is = λ form same. ap (λ keys. held_by json keys >>= form.asks) same ∙ ap (λ held. held >>= form.asks) (sym is)
