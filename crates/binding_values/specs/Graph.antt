-- What contracts see of the bindings of a place.
use Rattle.std.specs.Prelude.{ℕ, suc, ◌-◌, ◌≤◌, ◌==◌, ◌&&◌, ◌++◌, Bool, true, false, not, nat_le, nat_lt, if◌then◌else◌, List, [], ◌∷◌, All}
use Rattle.std.specs.Prelude.{filter, filter_map, find, Option, Some, None, Ok, Err, option_and_then, option_map}
use Rattle.std.specs.Option.{is_some, option_map_or}
use Rattle.plain_types.specs.declared.code.Code.{Code}
use Rattle.plain_types.specs.declared.code.Code.TheVariants.{Limit, NoGroup}
use Rattle.signature_core.specs.declared.kind.Kind.{Kind}
use Rattle.variant_value.specs.declared.value.Value.{Value}
use Rattle.variant_value.specs.declared.value.Value.TheVariants.{Invalid}
use Rattle.variant_value.specs.Values.{IsOfKind, is_same}
use Rattle.term_core.specs.Term.{Term}
use Rattle.property_store.specs.Store.{Store, default_of, written}
use Rattle.binding_values.specs.declared.binding.Binding.{Binding}
use Rattle.binding_values.specs.declared.change.Change.{Change}
use Rattle.binding_values.specs.declared.change.ChangeKind.TheVariants as message
use Rattle.property_store.specs.declared.property.Property.{Property}
use Rattle.binding_values.specs.declared.property.BindingError.{BindingError}
use Rattle.binding_values.specs.declared.property.BindingError.TheVariants.{BindingLoop, EvaluationError}
use Rattle.binding_values.specs.declared.shown.Shown.{Shown}
use Rattle.binding_values.specs.Scene.{Outcome, term_at}
use Rattle.property_store.specs.Property.{is_property}
use Rattle.binding_values.specs.Binds.{AreBindings, put_refusal, with_binding}
use Rattle.binding_values.specs.Sorted.{IsRising}
use Rattle.binding_values.specs.Stored.{cell_in, outcome_in, properties_in}

pub record Graph : Type 0 where
  -- The bindings, by ascending object and number.
  pub bindings : List Binding
  -- What the properties showed when the place was last settled, or when the outermost group began.
  pub last : List Shown
  -- How many groups are open.
  pub depth : ℕ

-- The graph of a place without bindings.
abbrev pub no_graph : Graph
no_graph = record { bindings = []; last = []; depth = 0 }

abbrev pub is_open : Graph → Bool
is_open graph = nat_lt 0 graph.depth

-- Whether a property is bound.
abbrev pub is_bound : List Binding → Property → Bool
is_bound bindings q = is_some (term_at bindings q)

-- What a property of a kind shows: its value, or, in error, the default of its kind and the error.
abbrev pub shown_as : Property → Kind → Outcome → Shown
shown_as at kind (Ok value) = record { at = at; kind = kind; value = value; error = None }
shown_as at kind (Err error) = record { at = at; kind = kind; value = default_of kind; error = Some error }

-- What a property shows by the present values and bindings.
abbrev pub shown_now : Store → List Binding → Property → Option Shown
shown_now store bindings q = option_map (λ cell. shown_as q cell.kind (outcome_in store bindings q)) (cell_in store q)

-- What all properties show, by ascending object and number.
abbrev pub all_shown : Store → List Binding → List Shown
all_shown store bindings = filter_map (shown_now store bindings) (properties_in store)

-- What a property showed then.
abbrev pub shown_at : List Shown → Property → Option Shown
shown_at last q = find (λ shown. is_property q shown.at) last

-- What a property shows that did not exist then.
abbrev pub fresh : Property → Kind → Shown
fresh at kind = shown_as at kind (Ok (default_of kind))

-- What a property shows. In a group a bound property shows what it showed when the outermost one began.
abbrev pub shown_in : Store → Graph → Property → Option Shown
shown_in store graph q =
    if is_open graph && is_bound graph.bindings q
    then option_map (λ cell. option_map_or (λ shown. shown) (shown_at graph.last q) (fresh q cell.kind)) (cell_in store q)
    else shown_now store graph.bindings q

-- The value of a property, with its error.
abbrev pub value_in : Store → Graph → Property → Value × Option BindingError
value_in store graph q = option_map_or (λ shown. (shown.value, shown.error)) (shown_in store graph q) (Invalid, None)

-- Whether two errors are the same, or both absent.
abbrev pub is_same_error : BindingError → BindingError → Bool
is_same_error BindingLoop BindingLoop = true
is_same_error EvaluationError EvaluationError = true
is_same_error a b = false

-- What a property showed before.
abbrev pub before : List Shown → Shown → Shown
before last shown = option_map_or (λ stood. stood) (shown_at last shown.at) (fresh shown.at shown.kind)

-- A warning, if the error is new or different.
abbrev pub warning : List Shown → Shown → Option Change
warning last shown =
    option_and_then (λ error. if option_map_or (is_same_error error) (before last shown).error false then None
    else Some (record { at = shown.at; told = message.Error error })) shown.error

-- A notification, if the value is different.
abbrev pub notice : List Shown → Shown → Option Change
notice last shown = if is_same (before last shown).value shown.value then None else Some (record { at = shown.at; told = message.Value shown.value })

-- Whether it is a property's turn: the first turn is that of the written property, the other that of the rest.
abbrev pub has_turn : Option Property → Bool → Shown → Bool
has_turn None first shown = not first
has_turn (Some written) true shown = is_property written shown.at
has_turn (Some written) false shown = not (is_property written shown.at)

abbrev pub in_turn : Option Property → List Shown → List Shown
in_turn written now = filter (has_turn written true) now ++ filter (has_turn written false) now

-- The changes: first all warnings, then all notifications.
abbrev pub changes : List Shown → List Shown → Option Property → List Change
changes last now written = filter_map (warning last) (in_turn written now) ++ filter_map (notice last) (in_turn written now)

-- The changes if only one property was written, which now has this value.
abbrev pub change_alone : Property → Value → Bool → List Change
change_alone at value true = record { at = at; told = message.Value value } ∷ []
change_alone at value false = []

-- The stored value; `Invalid` if the property does not exist.
abbrev pub stored_value : Store → Property → Value
stored_value store q = option_map_or (λ cell. cell.value) (cell_in store q) Invalid

-- The changes that a settling announces; none in a group.
abbrev pub settled_changes : Store → Graph → Option Property → List Change
settled_changes store graph written = if is_open graph then [] else changes graph.last (all_shown store graph.bindings) written

-- The graph after a settling.
abbrev pub settled_graph : Store → Graph → Graph
settled_graph store graph = if is_open graph then graph else record graph { last = all_shown store graph.bindings }

-- Why another binding is refused: there are too many already.
abbrev pub bind_refusal : Graph → Property → Option Code
bind_refusal graph q = put_refusal graph.bindings q

-- The graph in which a property is bound to an expression, which replaces any other.
abbrev pub bound : Graph → Property → Term → Graph
bound graph q term = record graph { bindings = with_binding (record { at = q; expr = term }) graph.bindings }

-- The graph without a property's binding.
abbrev pub unbound : Graph → Property → Graph
unbound graph q = record graph { bindings = filter (λ binding. not (is_property q binding.at)) graph.bindings }

-- The store in which the value that a bound property shows is stored.
abbrev pub taken : Store → Graph → Property → Store
taken store graph q = if is_bound graph.bindings q then written store q.object q.number (value_in store graph q).0 else store

-- The graph without the bindings of an object's properties.
abbrev pub without_object : ℕ → Graph → Graph
without_object object graph = record graph { bindings = filter (λ binding. not (binding.at.object == object)) graph.bindings }

-- Why another group is refused: too many are open.
abbrev pub begin_refusal : Graph → Option Code
begin_refusal graph = if nat_le 1000 graph.depth then Some Limit else None

-- The graph with another group. The outermost one begins with what is shown now.
abbrev pub begun : Store → Graph → Graph
begun store graph = record graph { last = if is_open graph then graph.last else all_shown store graph.bindings; depth = suc graph.depth }

-- Why no group can end: none is open.
abbrev pub end_refusal : Graph → Option Code
end_refusal graph = if is_open graph then None else Some NoGroup

abbrev pub ended : Graph → Graph
ended graph = record graph { depth = graph.depth - 1 }

-- What holds for what properties show.
pub record AreShown (rows : List Shown) : Type 0 where
  pub rising : IsRising (λ shown. shown.at) rows
  pub fitting : All (λ shown. IsOfKind shown.kind shown.value) rows

-- What holds for the graph of every place.
pub record IsSound (graph : Graph) : Type 0 where
  pub bindings : AreBindings graph.bindings
  pub last : AreShown graph.last
  pub shallow : graph.depth ≤ 1000
