-- The commands of classes and functors.
use Rattle.std.specs.Prelude.{List, [], ◌∷◌, codes}
use Rattle.session_model.specs.Asked.{Ask}
use Rattle.session_model.specs.declared.query.Query.TheVariants.{Classes, Describe, Functors, Meta}
use Rattle.wire_commands.specs.Form.{Form}
use Rattle.wire_commands.specs.Shared.{alone, of_class}

-- `meta` describes a class.
abbrev pub meta : Form
meta = of_class (codes "meta") (λ class. Ask (Meta class))

-- `classes` lists the names of the classes.
abbrev pub classes : Form
classes = alone (codes "classes") (Ask Classes)

-- `describe` describes a class with all that it has.
abbrev pub describe : Form
describe = of_class (codes "describe") (λ class. Ask (Describe class))

-- `functors` lists the functors.
abbrev pub functors : Form
functors = alone (codes "functors") (Ask Functors)

-- The forms of these commands.
unfoldable pub forms : List Form
forms = meta ∷ classes ∷ describe ∷ functors ∷ []
