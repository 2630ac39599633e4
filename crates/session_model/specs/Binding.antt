-- The effects of the commands for bindings and groups that are not refused.
use Rattle.std.specs.Prelude.{ℕ, true, false, List, [], ◌∷◌, Option, Some, None, Ok, Err, option_map, if◌then◌else◌}
use Rattle.std.specs.Option.{ok_or, option_map_or, option_or}
use Rattle.isolation.specs.Machine.{Effect}
use Rattle.plain_types.specs.declared.code.Code.{Code}
use Rattle.plain_types.specs.declared.code.Code.TheVariants.{NoSuchObject, NoSuchProperty, NotBindable}
use Rattle.serde_json.specs.Data.{Data}
use Rattle.term_core.specs.Forms.{binding_term_of}
use Rattle.term_core.specs.Term.{Term}
use Rattle.term_evaluation.specs.declared.reading.Read.{Read}
use Rattle.term_evaluation.specs.Reading.{reads_of}
use Rattle.property_store.specs.declared.property.Property.{Property}
use Rattle.binding_values.specs.Graph as graph
use Rattle.binding_values.specs.Graph.{begin_refusal, bind_refusal, end_refusal, is_bound, is_open}
use Rattle.binding_values.specs.Stored.{meant}
use Rattle.property_store.specs.Store.{field_at, field_number, properties_of}
use Rattle.session_model.specs.declared.line.Answer.TheVariants as a
use Rattle.session_model.specs.declared.line.Line.{Line}
use Rattle.session_model.specs.declared.post.Post.{Post}
use Rattle.session_model.specs.Absence.{absence}
use Rattle.session_model.specs.Operations.{behind}
use Rattle.session_model.specs.Execution.{begun, in_state}
use Rattle.session_model.specs.Effects.{does_next, refuses, replies}
use Rattle.session_model.specs.Items.{puts}
use Rattle.session_model.specs.Methods.{Found, ◌>>=◌}
use Rattle.session_model.specs.Settings.{Settings}
use Rattle.session_model.specs.Showing.{comes_to, showing, tellings}
use Rattle.session_model.specs.State.{State, with_binding, with_binding_taken, with_group, without_group}

-- The property with this name that an object's class declares.
abbrev pub asked_property : State → ℕ → List ℕ → Found Property
asked_property state target name =
    behind (absence state target)
    (option_map_or (λ of. ok_or (option_map (λ number. record { object = target; number = number }) (field_number name of.fields)) NoSuchProperty)
    (properties_of state.store target) (Err NoSuchProperty))

-- The property with this name that an object's class declares, if it is bindable: only such properties may be bound, or
-- read in a binding.
abbrev pub bindable_property : State → ℕ → List ℕ → Found Property
bindable_property state target name =
    asked_property state target name >>= λ at.
    if option_map_or (λ field. field.bindable) (field_at state.store at.object at.number) false then Ok at else Err NotBindable

-- Why something was not found, if it was not.
abbrev pub refusal_of : {A : Type 0} → Found A → Option Code
refusal_of (Ok found) = None
refusal_of (Err code) = Some code

-- Why a binding of an object's property may not read these properties: the first refusal of the first one that it may
-- not read.
abbrev pub reads_refusal : State → ℕ → List Read → Option Code
reads_refusal state target [] = None
reads_refusal state target (read ∷ rest) =
    option_or (option_map_or (λ object. refusal_of (bindable_property state object read.name)) (meant target read.target) (Some NoSuchObject))
    (reads_refusal state target rest)

-- A property to be bound, and its expression.
pub record Bound : Type 0 where
  pub at : Property
  pub term : Term

abbrev pub asked_binding : State → ℕ → List ℕ → Data → Found Bound
asked_binding state target name to =
    bindable_property state target name >>= λ at.
    binding_term_of to >>= λ term.
    behind (reads_refusal state target (reads_of term)) (Ok (record { at = at; term = term }))

abbrev pub binding_refusal : State → Found Bound → Option Code
binding_refusal state (Ok bound) = bind_refusal state.graph bound.at
binding_refusal state (Err code) = Some code

-- Binding a property announces the changes that it causes, first that of the property itself.
abbrev pub binds_found : Settings → State → Found Bound → Effect State Line Post
binds_found settings state (Ok bound) =
    does_next settings (comes_to settings (begun settings state) 0 (with_binding state bound.at bound.term) (Some bound.at)) (a.Truth true)
binds_found settings state (Err code) = refuses state code

-- A property whose binding is removed keeps its value. The reply is whether it was bound.
abbrev pub unbinds_found : Settings → State → Found Property → Effect State Line Post
unbinds_found settings state (Ok at) = does_next settings
    (comes_to settings (begun settings state) 0 (with_binding_taken state at) (Some at)) (a.Truth (is_bound state.graph.bindings at))
unbinds_found settings state (Err code) = refuses state code

-- Begins a group. The reply is how many groups are open then.
abbrev pub begins : State → Effect State Line Post
begins state = replies (with_group state) (a.Number (with_group state).graph.depth)

-- The end of the outermost group announces everything that has changed since it began, in the order of the numbers.
abbrev pub ends : Settings → State → Effect State Line Post
ends settings state =
    let after = without_group state in
    let told = if is_open after.graph then [] else tellings settings after 0 (graph.changes state.graph.last (showing after) None) in
    does_next settings (puts told (in_state (begun settings state) after)) (a.Number after.graph.depth)
