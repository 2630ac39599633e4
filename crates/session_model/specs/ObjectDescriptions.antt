-- The description of an object.
use Rattle.std.specs.Prelude.{ℕ, ◌==◌, [], Some, count_by, length}
use Rattle.std.specs.Option.{ok_or, unwrap_or}
use Rattle.event_queue.specs.Queue.{object_of}
use Rattle.object_tree.specs.declared.row.Row.{Row}
use Rattle.object_tree.specs.Lines.{depth}
use Rattle.object_tree.specs.Rows.{children, row_of}
use Rattle.plain_types.specs.declared.code.Code.TheVariants.{NoSuchObject}
use Rattle.session_model.specs.declared.descriptions.ObjectDescription.{ObjectDescription}
use Rattle.session_model.specs.Classes.{class_name}
use Rattle.session_model.specs.Methods.{Found}
use Rattle.session_model.specs.Settings.{Settings}
use Rattle.session_model.specs.State.{State}

-- The row of an object, if it exists.
abbrev pub asked_row : State → ℕ → Found Row
asked_row state target = ok_or (row_of state.forest.rows target) NoSuchObject

abbrev pub object_description : Settings → State → Row → ObjectDescription
object_description settings state row = record {
  blocked = row.blocked;
  children = length (children state.forest.rows (Some row.number));
  class = unwrap_or (class_name settings.classes row.class) [];
  connections_from = count_by (λ connection. connection.sender == row.number) state.connections.rows;
  connections_to = count_by (λ connection. connection.receiver == row.number) state.connections.rows;
  events = count_by (λ event. object_of event == row.number) state.queue.events;
  level = depth state.forest.rows row.number;
  parent = row.parent;
}
