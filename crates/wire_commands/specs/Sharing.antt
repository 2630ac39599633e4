-- The commands of publications and joins, and `reset`.
use Rattle.std.specs.Prelude.{ℕ, List, [], ◌∷◌, Option, Some, None, codes, option_and_then, option_map}
use Rattle.serde_json.specs.Data.{Data}
use Rattle.serde_json.specs.Find.{as_str}
use Rattle.json_reading.specs.Fields.{◌>>=◌}
use Rattle.session_model.specs.Asked.{Asked, Ask, Join, Leave, Publish, Reset, Unpublish}
use Rattle.session_model.specs.declared.query.Query.TheVariants.{Joins, Publications}
use Rattle.wire_commands.specs.declared.keys.Holds.TheVariants.{Name, Number, Text, List as AList}
use Rattle.wire_commands.specs.Form.{Form}
use Rattle.wire_commands.specs.Held.{Held, number_of, text_of, list_of}
use Rattle.wire_commands.specs.Keys.{needed}
use Rattle.wire_commands.specs.Shared.{alone}

-- `publish` publishes a signal of an object under a name.
abbrev pub publish_of : List Held → Option Asked
publish_of (target ∷ signal ∷ name ∷ []) = do
  of ← number_of target
  sent ← text_of signal
  named ← text_of name
  Some (Publish of sent named)
publish_of held = None

abbrev pub publish : Form
publish = record {
  word = codes "publish";
  keys = needed (codes "object") Number ∷ needed (codes "signal") Text ∷ needed (codes "name") Name ∷ [];
  asks = publish_of;
}

-- `unpublish` removes a publication.
abbrev pub unpublish_of : List Held → Option Asked
unpublish_of (name ∷ []) = option_map Unpublish (text_of name)
unpublish_of held = None

abbrev pub unpublish : Form
unpublish = record { word = codes "unpublish"; keys = needed (codes "name") Name ∷ []; asks = unpublish_of }

-- The texts, if each of these is one.
abbrev pub texts_of : List Data → Option (List (List ℕ))
texts_of [] = Some []
texts_of (json ∷ rest) = do
  text ← as_str json
  texts ← texts_of rest
  Some (text ∷ texts)

-- `join` joins a publication of a session, which then calls a method of an object.
abbrev pub join_of : List Held → Option Asked
join_of (from ∷ name ∷ types ∷ target ∷ method ∷ []) = do
  of ← number_of target
  whose ← text_of from
  named ← text_of name
  kinds ← option_and_then texts_of (list_of types)
  called ← text_of method
  Some (Join whose named kinds of called)
join_of held = None

abbrev pub join : Form
join = record {
  word = codes "join";
  keys = needed (codes "from") Name ∷ needed (codes "name") Name ∷
      needed (codes "types") AList ∷ needed (codes "object") Number ∷ needed (codes "method") Text ∷ [];
  asks = join_of;
}

-- `leave` removes the joins that were made with these four keys.
abbrev pub leave_of : List Held → Option Asked
leave_of (from ∷ name ∷ target ∷ method ∷ []) = do
  of ← number_of target
  whose ← text_of from
  named ← text_of name
  called ← text_of method
  Some (Leave whose named of called)
leave_of held = None

abbrev pub leave : Form
leave = record {
  word = codes "leave";
  keys = needed (codes "from") Name ∷ needed (codes "name") Name ∷ needed (codes "object") Number ∷ needed (codes "method") Text ∷ [];
  asks = leave_of;
}

-- `reset` removes everything that the session holds.
abbrev pub reset : Form
reset = alone (codes "reset") Reset

-- `publications` lists what the session publishes.
abbrev pub publications : Form
publications = alone (codes "publications") (Ask Publications)

-- `joins` lists what the session joins.
abbrev pub joins : Form
joins = alone (codes "joins") (Ask Joins)

-- The forms of these commands.
unfoldable pub forms : List Form
forms = publish ∷ unpublish ∷ join ∷ leave ∷ reset ∷ publications ∷ joins ∷ []
