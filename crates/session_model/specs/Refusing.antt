-- Why a command is refused: the first reason that applies, for each command.
use Rattle.binding_values.specs.Graph.{begin_refusal, end_refusal}
use Rattle.session_model.specs.Binding.{asked_binding, asked_property, binding_refusal}
use Rattle.std.specs.Prelude.{ℕ, ◌&&◌, List, Option, None, is_some, if◌then◌else◌}
use Rattle.std.specs.Option.{option_map_or, option_or}
use Rattle.std.specs.Result.{result_err}
use Rattle.serde_json.specs.Data.{Data}
use Rattle.plain_types.specs.declared.code.Code.{Code}
use Rattle.plain_types.specs.declared.connection_type.ConnectionType.{ConnectionType}
use Rattle.object_tree.specs.Refusing.{add_refusal, parent_refusal}
use Rattle.session_model.specs.Absence.{absence}
use Rattle.session_model.specs.Asked.{Asked, New, Delete, Set, Ask, Connect}
use Rattle.session_model.specs.Asked.{ConnectFunctor, DisconnectOne, Disconnect, Invoke, Spin, Do, Publish}
use Rattle.session_model.specs.Asked.{Unpublish, Join, Leave, Reset, Bind, Unbind, Begin, End}
use Rattle.session_model.specs.Classes.{class_refusal}
use Rattle.session_model.specs.Operations.{operation_refusal, found_refusal}
use Rattle.session_model.specs.Methods.{signature_in}
use Rattle.session_model.specs.Posting.{is_queued, enqueue_refusal}
use Rattle.session_model.specs.Queries.{query_answer}
use Rattle.session_model.specs.Settings.{Settings}
use Rattle.session_model.specs.Sharing.{asked_join, asked_listener, asked_publication, joining_refusal, publication_refusal}
use Rattle.session_model.specs.Signals.{asked_connect, asked_connect_functor, asked_disconnect, asked_method, asked_values}
use Rattle.session_model.specs.State.{State}
use Rattle.session_model.specs.Writing.{asked_writing}

-- The refusal if the arguments do not fit the method that is called. There is none if the object has no such method.
abbrev pub values_refusal : Settings → State → ℕ → List Data → Option ℕ → Option Code
values_refusal settings state target args index = option_map_or (λ index. result_err (asked_values settings state target index args)) index None

-- The refusal of a queued call if the queue has no room for it. There is none if the object has no such method.
abbrev pub later_refusal : State → ConnectionType → Option ℕ → Option Code
later_refusal state mode index = if is_queued mode && is_some index then enqueue_refusal state.queue else None

-- Why a command is refused in a session with this name and state, if it is.
unfoldable pub refusal : Settings → List ℕ → State → Asked → Option Code
refusal settings self state (New class parent) =
    option_or (parent_refusal state.forest.rows parent) (
    option_or (class_refusal settings.classes class)
    (add_refusal state.forest parent))
refusal settings self state (Delete target) = absence state target
refusal settings self state (Set target property value) =
    option_or (absence state target)
    (result_err (asked_writing state target property value))
refusal settings self state (Connect sender signal receiver method mode unique single) =
    found_refusal state (asked_connect settings state sender signal receiver method mode unique single)
refusal settings self state (ConnectFunctor sender signal context functor mode unique single) =
    found_refusal state (asked_connect_functor settings state sender signal context functor mode unique single)
refusal settings self state (DisconnectOne connection) = None
refusal settings self state (Disconnect sender signal receiver method) = found_refusal state (asked_disconnect settings state sender signal receiver method)
refusal settings self state (Invoke target method args mode priority) =
    option_or (absence state target) (
    option_or (result_err (signature_in method)) (
    option_or (values_refusal settings state target args (asked_method settings state target method))
    (later_refusal state mode (asked_method settings state target method))))
refusal settings self state Spin = None
refusal settings self state (Do operation) = operation_refusal state operation
refusal settings self state (Publish target signal name) = publication_refusal state (asked_publication settings state target signal name)
refusal settings self state (Unpublish name) = None
refusal settings self state (Join from name types target method) = joining_refusal settings self state (asked_join settings state from name types target method)
refusal settings self state (Leave from name target method) = result_err (asked_listener settings state target method)
refusal settings self state Reset = None
refusal settings self state (Bind target property to) = binding_refusal state (asked_binding state target property to)
refusal settings self state (Unbind target property) = result_err (asked_property state target property)
refusal settings self state Begin = begin_refusal state.graph
refusal settings self state End = end_refusal state.graph
refusal settings self state (Ask query) = result_err (query_answer settings state query)
