-- The words in which most proofs of this crate speak, passed on from the modules that define them.
pub use Rattle.binding_values.proofs.ForCallers.{all_shown_sound}
pub use Rattle.binding_values.specs.Graph.{Graph, before, begin_refusal, bind_refusal, has_turn, in_turn, is_bound, is_open, is_same_error, notice, shown_now}
pub use Rattle.binding_values.specs.Graph.{unbound, value_in, warning}
pub use Rattle.binding_values.specs.Scene.{Cell}
pub use Rattle.binding_values.specs.Stored.{cell_in, cell_of, properties_in}
pub use Rattle.binding_values.specs.declared.change.Change.{Change}
pub use Rattle.binding_values.specs.declared.change.ChangeKind.{ChangeKind}
pub use Rattle.binding_values.specs.declared.property.BindingError.{BindingError}
pub use Rattle.binding_values.specs.declared.shown.Shown.{Shown}
pub use Rattle.class_table.specs.Lookup.{methods, properties}
pub use Rattle.class_table.specs.declared.class.Class.{Class}
pub use Rattle.class_table.specs.declared.class.Method.{Method}
pub use Rattle.connection_list.proofs.ForCallers.{all_stepped, rising_head, rising_tail}
pub use Rattle.connection_list.specs.Ends.{calls, matches, touches}
pub use Rattle.connection_list.specs.Rows.{IsRising, Rows, has_number, numbered}
pub use Rattle.connection_list.specs.declared.connection.Connection.{Connection}
pub use Rattle.connection_list.specs.declared.connection.NewConnection.{NewConnection}
pub use Rattle.event_queue.specs.Queue.{Queue, has_room, with_mismatched}
pub use Rattle.event_queue.specs.declared.event.Event.{Event}
pub use Rattle.event_queue.specs.declared.event.QueuedCall.{QueuedCall}
pub use Rattle.object_tree.specs.Changes.{marked, orphaned}
pub use Rattle.object_tree.specs.Forest.{Forest}
pub use Rattle.object_tree.specs.Refusing.{object_refusal}
pub use Rattle.object_tree.specs.Rows.{children, is_there, numbers, row_of}
pub use Rattle.object_tree.specs.declared.row.Row.{Row}
pub use Rattle.plain_types.specs.declared.callee.Callee.{Callee}
pub use Rattle.plain_types.specs.declared.code.Code.{Code}
pub use Rattle.plain_types.specs.declared.code.Code.TheVariants.{BadValue, DoesNotFit, Limit, NoSuchObject, TurnsUsedUp}
pub use Rattle.property_store.proofs.ForCallers.{changed_fields, found, without_others}
pub use Rattle.property_store.specs.Store.{AreSound, Properties, Store, changed, fitting, properties_of, with_dynamic, with_value, without_dynamic}
pub use Rattle.property_store.specs.declared.field.Field.{Field}
pub use Rattle.property_store.specs.declared.property.Property.{Property}
pub use Rattle.publish_board.specs.Desk.{Desk}
pub use Rattle.publish_board.specs.declared.join.Join.{Join}
pub use Rattle.publish_board.specs.declared.publication.Publication.{Publication}
pub use Rattle.serde_json.specs.Data.{Data}
pub use Rattle.session_model.specs.Absence.{absence}
pub use Rattle.session_model.specs.Acts.{act_operation, acts, branch, chosen, emission, warns_or, with_found}
pub use Rattle.session_model.specs.Agenda.{call_items, call_line, called, calls_of, delete_children, emitted, event_items, functor_line, functor_ran, lives}
pub use Rattle.session_model.specs.Agenda.{method_items, queued, ran, step, with_turn}
pub use Rattle.session_model.specs.Arriving.{joined_call, kinds_of, posts_of, reached_by}
pub use Rattle.session_model.specs.Asked.{Asked}
pub use Rattle.session_model.specs.Effects.{does_next, replies}
pub use Rattle.session_model.specs.Execution.{Execution, begun, dying, first_taken, in_state, line_told, posting, severed, single_shot_broken, stepped}
pub use Rattle.session_model.specs.Execution.{turn_taken, used_up}
pub use Rattle.session_model.specs.Fitting.{AreSettings, IsCall, IsConnected, IsFitting, IsFittingEvent, IsFittingItem, IsFittingOperation, IsJoined}
pub use Rattle.session_model.specs.Fitting.{IsPublished, IsRightPost, IsSent, MayBeConnected}
pub use Rattle.session_model.specs.Functors.{functor_at}
pub use Rattle.session_model.specs.Items.{Act, Call, Delete, DeleteChild, Detach, Emit, Item, Next, Remove, Run, RunFunctor, Spin, Warn, WarnOf, puts}
pub use Rattle.session_model.specs.Methods.{Found, is_signal_at, kinds_at, method_at, method_named, methods_by, methods_of, signal_named, signal_with, ◌>>=◌}
pub use Rattle.session_model.specs.Named.{AreNamed, IsNamedItem}
pub use Rattle.session_model.specs.Operations.{behind, found_refusal, operation_done, operation_refusal, with_operation}
pub use Rattle.session_model.specs.Run.{Most, change_weight, run, weights}
pub use Rattle.session_model.specs.Settings.{Settings}
pub use Rattle.session_model.specs.Showing.{changes, comes_to, showing, told_as, told_value}
pub use Rattle.session_model.specs.Signals.{does_found}
pub use Rattle.session_model.specs.State.{IsDeclared, IsMeant, IsSound, IsTied, IsWhole, OfDesk, State, empty, fields_of, functor_state, with_binding_taken}
pub use Rattle.session_model.specs.State.{with_event, with_functor_state, with_lost, with_object, with_properties, without_connections, without_first}
pub use Rattle.session_model.specs.State.{without_group, without_object}
pub use Rattle.session_model.specs.Targets.{all_converted, all_evaluated, evaluated, object_of, truth_evaluated}
pub use Rattle.session_model.specs.Thread.{arrives}
pub use Rattle.session_model.specs.UnderWay.{IsUnderWay, is_gone}
pub use Rattle.session_model.specs.Writing.{Declared, Dynamic, Nothing, Removed, Writing, acted_writing, asked_writing, with_writing, written, written_property}
pub use Rattle.session_model.specs.declared.call.TheConstants.{DESTROYED}
pub use Rattle.session_model.specs.declared.line.Answer.{Answer}
pub use Rattle.session_model.specs.declared.line.Line.{Line}
pub use Rattle.session_model.specs.declared.line.Line.TheVariants.{Warning}
pub use Rattle.session_model.specs.declared.operation.Operation.{Operation}
pub use Rattle.session_model.specs.declared.post.Post.{Post}
pub use Rattle.signature_core.specs.Kinds.{fits}
pub use Rattle.signature_core.specs.declared.kind.Kind.{Kind}
pub use Rattle.signature_core.specs.declared.signature.Signature.{Signature}
pub use Rattle.stored_slots.specs.Functors.{AreArguments}
pub use Rattle.stored_slots.specs.declared.functor.Functor.{Functor}
pub use Rattle.term_core.specs.Act.{Acts, acts_of, counts, more, nothing, single_action, when}
pub use Rattle.term_core.specs.Forms.{is_within_limits}
pub use Rattle.term_core.specs.Term.{Term}
pub use Rattle.term_core.specs.declared.action.SingleAction.{SingleAction}
pub use Rattle.term_core.specs.declared.target.Target.{Target}
pub use Rattle.term_evaluation.specs.Stating.{after, with_state}
pub use Rattle.variant_value.specs.Values.{IsOfKind, IsShort, converted, is_same}
pub use Rattle.variant_value.specs.declared.value.Value.{Value}
