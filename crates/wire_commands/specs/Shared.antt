-- Forms that several commands have.
use Rattle.std.specs.Prelude.{ℕ, List, [], ◌∷◌, Option, Some, None, codes, option_map}
use Rattle.serde_json.specs.Data.{Data}
use Rattle.json_reading.specs.Fields.{◌>>=◌}
use Rattle.session_model.specs.Asked.{Asked}
use Rattle.wire_commands.specs.declared.keys.Holds.TheVariants.{Name, Number, Text}
use Rattle.wire_commands.specs.Form.{Form}
use Rattle.wire_commands.specs.Held.{Held, json_of, number_of, text_of}
use Rattle.wire_commands.specs.Keys.{needed, optional}

-- A command without further keys.
abbrev pub with_nothing : Asked → List Held → Option Asked
with_nothing asked [] = Some asked
with_nothing asked held = None

unfoldable pub alone : List ℕ → Asked → Form
alone word asked = record { word = word; keys = []; asks = with_nothing asked }

-- A command with an object.
abbrev pub with_object : (ℕ → Asked) → List Held → Option Asked
with_object asks (target ∷ []) = option_map asks (number_of target)
with_object asks held = None

unfoldable pub of_object : List ℕ → (ℕ → Asked) → Form
of_object word asks = record { word = word; keys = needed (codes "object") Number ∷ []; asks = with_object asks }

-- A command with a property of an object.
abbrev pub with_property : (ℕ → List ℕ → Asked) → List Held → Option Asked
with_property asks (target ∷ property ∷ []) = do
  number ← number_of target
  name ← text_of property
  Some (asks number name)
with_property asks held = None

unfoldable pub of_property : List ℕ → (ℕ → List ℕ → Asked) → Form
of_property word asks = record { word = word; keys = needed (codes "object") Number ∷ needed (codes "property") Name ∷ []; asks = with_property asks }

-- A command with a property of an object, and any JSON at a further key.
abbrev pub with_property_and_json : (ℕ → List ℕ → Data → Asked) → List Held → Option Asked
with_property_and_json asks (target ∷ property ∷ value ∷ []) = do
  number ← number_of target
  name ← text_of property
  json ← json_of value
  Some (asks number name json)
with_property_and_json asks held = None

-- A command with a class.
abbrev pub with_class : (List ℕ → Asked) → List Held → Option Asked
with_class asks (class ∷ []) = option_map asks (text_of class)
with_class asks held = None

unfoldable pub of_class : List ℕ → (List ℕ → Asked) → Form
of_class word asks = record { word = word; keys = needed (codes "class") Name ∷ []; asks = with_class asks }

-- A command that searches below an object, by a name and a class if they are given.
abbrev pub with_search : (ℕ → Option (List ℕ) → Option (List ℕ) → Asked) → List Held → Option Asked
with_search asks (target ∷ name ∷ class ∷ []) = option_map (λ number. asks number (text_of name) (text_of class)) (number_of target)
with_search asks held = None

unfoldable pub of_search : List ℕ → (ℕ → Option (List ℕ) → Option (List ℕ) → Asked) → Form
of_search word asks = record {
  word = word;
  keys = needed (codes "object") Number ∷ optional (codes "name") Text ∷ optional (codes "class") Name ∷ [];
  asks = with_search asks;
}
