-- The commands of trees of objects.
use Rattle.std.specs.Prelude.{List, [], ◌∷◌, Option, Some, None, codes, option_map}
use Rattle.session_model.specs.Asked.{Asked, New, Delete, Do, Ask}
use Rattle.session_model.specs.declared.operation.Operation.TheVariants.{SetParent}
use Rattle.session_model.specs.declared.query.Query.TheVariants.{Children, Find, FindAll, Object, Parent}
use Rattle.wire_commands.specs.declared.keys.Holds.TheVariants.{Name, Number, NumberOrNull}
use Rattle.wire_commands.specs.Form.{Form}
use Rattle.wire_commands.specs.Held.{Held, number_of, text_of}
use Rattle.wire_commands.specs.Keys.{needed, optional}
use Rattle.wire_commands.specs.Shared.{of_object, of_search}

-- `new` makes an object of a class, below a parent if one is named.
abbrev pub new_of : List Held → Option Asked
new_of (class ∷ parent ∷ []) = option_map (λ name. New name (number_of parent)) (text_of class)
new_of held = None

abbrev pub new : Form
new = record { word = codes "new"; keys = needed (codes "class") Name ∷ optional (codes "parent") Number ∷ []; asks = new_of }

-- `delete` deletes an object.
abbrev pub delete : Form
delete = of_object (codes "delete") Delete

-- `setParent` gives an object another parent; null makes it a root.
abbrev pub set_parent_of : List Held → Option Asked
set_parent_of (target ∷ parent ∷ []) = option_map (λ number. Do (SetParent number (number_of parent))) (number_of target)
set_parent_of held = None

abbrev pub set_parent : Form
set_parent = record { word = codes "setParent"; keys = needed (codes "object") Number ∷ needed (codes "parent") NumberOrNull ∷ []; asks = set_parent_of }

-- `children` lists the children of an object, or the roots.
abbrev pub children_of : List Held → Option Asked
children_of (target ∷ []) = Some (Ask (Children (number_of target)))
children_of held = None

abbrev pub children : Form
children = record { word = codes "children"; keys = optional (codes "object") Number ∷ []; asks = children_of }

-- `find` looks for an object below another one.
abbrev pub find : Form
find = of_search (codes "find") (λ target name class. Ask (Find target name class))

-- `parent` asks for the parent of an object.
abbrev pub parent : Form
parent = of_object (codes "parent") (λ target. Ask (Parent target))

-- `findAll` looks for all objects below another one.
abbrev pub find_all : Form
find_all = of_search (codes "findAll") (λ target name class. Ask (FindAll target name class))

-- `object` describes an object.
abbrev pub describe_object : Form
describe_object = of_object (codes "object") (λ target. Ask (Object target))

-- The forms of these commands, except `new`.
unfoldable pub forms : List Form
forms = delete ∷ set_parent ∷ children ∷ find ∷ parent ∷ find_all ∷ describe_object ∷ []
