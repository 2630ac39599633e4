-- The commands.
use Rattle.std.specs.Prelude.{ℕ, List, [], ◌∷◌, ◌++◌, Option, codes, map}
use Rattle.serde_json.specs.Data.{Data}
use Rattle.json_reading.specs.Fields.{◌>>=◌, text_at}
use Rattle.session_model.specs.Asked.{Asked}
use Rattle.wire_commands.specs.Form.{Form, asked_by}
use Rattle.wire_commands.specs.Trees as trees
use Rattle.wire_commands.specs.Properties as properties
use Rattle.wire_commands.specs.Bindings as bindings
use Rattle.wire_commands.specs.Classes as classes
use Rattle.wire_commands.specs.Signals as signals
use Rattle.wire_commands.specs.Events as events
use Rattle.wire_commands.specs.Sharing as sharing

-- The forms of all commands, family by family. A word that a family does not know belongs to a later family.
abbrev pub from_sharing : List Form
from_sharing = sharing.forms

abbrev pub from_events : List Form
from_events = events.forms ++ from_sharing

abbrev pub from_signals : List Form
from_signals = signals.forms ++ from_events

abbrev pub from_classes : List Form
from_classes = classes.forms ++ from_signals

abbrev pub from_bindings : List Form
from_bindings = bindings.forms ++ from_classes

abbrev pub from_properties : List Form
from_properties = properties.forms ++ from_bindings

abbrev pub from_trees : List Form
from_trees = trees.forms ++ from_properties

-- The most frequent commands, which come before the families.
abbrev pub frequent : List Form
frequent = properties.set ∷ properties.get ∷ trees.new ∷ signals.invoke ∷ []

abbrev pub all_forms : List Form
all_forms = frequent ++ from_trees

-- The words of all commands.
abbrev pub all_words : List (List ℕ)
all_words = map (λ form. form.word) all_forms

-- The command in JSON, without its session.
unfoldable pub asked_of : Data → Option Asked
asked_of json = do
  word ← text_at (codes "do") json
  asked_by all_forms word json
