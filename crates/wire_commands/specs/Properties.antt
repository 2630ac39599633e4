-- The commands of properties.
use Rattle.std.specs.Prelude.{List, [], ◌∷◌, codes}
use Rattle.session_model.specs.Asked.{Ask, Set}
use Rattle.session_model.specs.declared.query.Query.TheVariants.{Get, DynamicNames, Properties}
use Rattle.wire_commands.specs.declared.keys.Holds.TheVariants.{Name, Number, Any}
use Rattle.wire_commands.specs.Form.{Form}
use Rattle.wire_commands.specs.Keys.{needed}
use Rattle.wire_commands.specs.Shared.{of_object, of_property, with_property_and_json}

-- `set` writes a property; the value may be any JSON.
abbrev pub set : Form
set = record {
  word = codes "set";
  keys = needed (codes "object") Number ∷ needed (codes "property") Name ∷ needed (codes "value") Any ∷ [];
  asks = with_property_and_json Set;
}

-- `get` reads a property.
abbrev pub get : Form
get = of_property (codes "get") (λ target name. Ask (Get target name))

-- `dynamicNames` lists the names of an object's dynamic properties.
abbrev pub dynamic_names : Form
dynamic_names = of_object (codes "dynamicNames") (λ target. Ask (DynamicNames target))

-- `properties` lists the properties of an object.
abbrev pub properties : Form
properties = of_object (codes "properties") (λ target. Ask (Properties target))

-- The forms of these commands, except `set` and `get`.
unfoldable pub forms : List Form
forms = dynamic_names ∷ properties ∷ []
