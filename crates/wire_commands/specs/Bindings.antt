-- The commands of bindings and groups.
use Rattle.std.specs.Prelude.{List, [], ◌∷◌, Option, Some, None, codes}
use Rattle.session_model.specs.Asked.{Ask, Asked, Begin, Bind, End, Unbind}
use Rattle.session_model.specs.declared.query.Query.TheVariants.{Binding, BindingError, Bindings}
use Rattle.wire_commands.specs.declared.keys.Holds.TheVariants.{Name, Number, Property, Any}
use Rattle.wire_commands.specs.Form.{Form}
use Rattle.wire_commands.specs.Held.{Held, property_of}
use Rattle.wire_commands.specs.Keys.{needed, optional}
use Rattle.wire_commands.specs.Shared.{alone, of_property, with_property_and_json}

-- `bind` binds a property to an expression, which may be any JSON.
abbrev pub bind : Form
bind = record {
  word = codes "bind";
  keys = needed (codes "object") Number ∷ needed (codes "property") Name ∷ needed (codes "to") Any ∷ [];
  asks = with_property_and_json Bind;
}

-- `unbind` removes the binding of a property.
abbrev pub unbind : Form
unbind = of_property (codes "unbind") Unbind

-- `bindingError` answers with the error of a bound property.
abbrev pub binding_error : Form
binding_error = of_property (codes "bindingError") (λ target name. Ask (BindingError target name))

-- `binding` answers with the expression to which a property is bound.
abbrev pub binding : Form
binding = of_property (codes "binding") (λ target name. Ask (Binding target name))

-- `bindings` lists the bound properties.
abbrev pub bindings_of : List Held → Option Asked
bindings_of (after ∷ []) = Some (Ask (Bindings (property_of after)))
bindings_of held = None

abbrev pub bindings : Form
bindings = record { word = codes "bindings"; keys = optional (codes "after") Property ∷ []; asks = bindings_of }

-- `begin` begins a group.
abbrev pub begin : Form
begin = alone (codes "begin") Begin

-- `end` ends a group.
abbrev pub end : Form
end = alone (codes "end") End

-- The forms of these commands.
unfoldable pub forms : List Form
forms = bind ∷ unbind ∷ binding_error ∷ binding ∷ bindings ∷ begin ∷ end ∷ []
