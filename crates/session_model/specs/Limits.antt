-- The limits of a server, as numerals.
use Rattle.std.specs.Prelude.{◌≡◌, true, Some, codes, option_map, slice_get}
use Rattle.plain_types.specs.declared.name.TheConstants.{NAME_BYTES}
use Rattle.signature_core.specs.declared.signature.TheConstants.{PARAMS}
use Rattle.variant_value.specs.declared.value.TheConstants.{TEXT_BYTES}
use Rattle.term_core.specs.declared.limits.TheConstants.{NODES, ACTIONS}
use Rattle.class_table.specs.declared.class.TheConstants.{CLASSES, METHODS, PROPERTIES}
use Rattle.class_table.specs.declared.file.TheConstants.{FILE_BYTES}
use Rattle.class_table.specs.Declaring.{q_object}
use Rattle.class_table.specs.Lookup.{method_text}
use Rattle.stored_slots.specs.declared.limit.TheConstants.{FUNCTORS}
use Rattle.connection_list.specs.declared.limit.TheConstants.{CONNECTIONS, LISTED}
use Rattle.publish_board.specs.declared.lazy_desk.TheConstants.{PUBLICATIONS, JOINS}
use Rattle.object_tree.specs.declared.row.TheConstants.{OBJECTS, DEPTH}
use Rattle.event_queue.specs.declared.table.TheConstants.{EVENTS}
use Rattle.property_store.specs.declared.dynamic.TheConstants.{DYNAMIC}
use Rattle.binding_values.specs.declared.bound.TheConstants.{BINDINGS}
use Rattle.binding_values.specs.declared.shown.TheConstants.{GROUPS}
use Rattle.session_model.specs.declared.call.TheConstants.{NESTED_SIGNALS, DESTROYED, OBJECT_NAME}

-- The names that definitions use for the limits, each with its numeral.
pub record AreTheLimits : Type 0 where
  -- How much a session holds at most.
  pub objects : OBJECTS ≡ 4096
  pub connections : CONNECTIONS ≡ 16384
  pub events : EVENTS ≡ 16384
  pub bindings : BINDINGS ≡ 1024
  pub groups : GROUPS ≡ 1000
  pub publications : PUBLICATIONS ≡ 1024
  pub joins : JOINS ≡ 1024
  -- The levels of its trees, and of signals that are sent within signals.
  pub levels : DEPTH ≡ 64
  pub nested_signals : NESTED_SIGNALS ≡ 64
  -- The limits of an object, a binding and a text.
  pub dynamic_properties : DYNAMIC ≡ 64
  pub forms_of_an_expression : NODES ≡ 64
  pub bytes_of_a_text : TEXT_BYTES ≡ 4096
  -- The limits of a class file and its classes.
  pub bytes_of_a_class_file : FILE_BYTES ≡ 1048576
  pub classes : CLASSES ≡ 1024
  pub methods : METHODS ≡ 256
  pub properties : PROPERTIES ≡ 64
  pub parameters : PARAMS ≡ 10
  pub actions_of_a_body : ACTIONS ≡ 32
  -- How many connections one reply lists at most.
  pub listed_connections : LISTED ≡ 1000
  -- The limits of names, and of the functors of a server.
  pub functors : FUNCTORS ≡ 256
  pub bytes_of_a_name : NAME_BYTES ≡ 64
  -- The signal and the property of `QObject` that a server itself uses.
  pub destroyed : option_map method_text (slice_get q_object.methods DESTROYED) ≡ Some (codes "destroyed()")
  pub destroyed_is_signal : option_map (λ method. method.is_signal) (slice_get q_object.methods DESTROYED) ≡ Some true
  pub object_name : option_map (λ property. property.name) (slice_get q_object.properties OBJECT_NAME) ≡ Some (codes "objectName")
