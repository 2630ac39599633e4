-- The descriptions of connections.
use Rattle.std.specs.Prelude.{ℕ, List, [], Option, map}
use Rattle.std.specs.Option.{option_map_or, unwrap_or}
use Rattle.connection_list.specs.declared.connection.Connection.{Connection}
use Rattle.connection_list.specs.Rows.{listed}
use Rattle.plain_types.specs.declared.callee.Callee.{Callee}
use Rattle.plain_types.specs.declared.callee.Callee.TheVariants.{Method, Functor}
use Rattle.session_model.specs.declared.descriptions.CalleeDescription.{CalleeDescription}
use Rattle.session_model.specs.declared.descriptions.CalleeDescription.TheVariants as callee
use Rattle.session_model.specs.declared.descriptions.ConnectionDescription.{ConnectionDescription}
use Rattle.session_model.specs.Functors.{functor_at}
use Rattle.session_model.specs.Settings.{Settings}
use Rattle.session_model.specs.State.{State}
use Rattle.session_model.specs.SharingDescriptions.{text_at}

-- The callee of a connection: a method by its text, a functor by its name and with its state.
abbrev pub callee_description : Settings → State → ℕ → ℕ → Callee → CalleeDescription
callee_description settings state receiver kept (Method index) = callee.Method (text_at settings state receiver index)
callee_description settings state receiver kept (Functor index) = callee.Functor (option_map_or (λ functor. functor.name) (functor_at settings index) []) kept

abbrev pub connection_description : Settings → State → Connection → ConnectionDescription
connection_description settings state row = record {
  callee = callee_description settings state row.receiver row.state row.callee;
  mode = row.mode;
  number = row.number;
  receiver = row.receiver;
  sender = row.sender;
  signal = text_at settings state row.sender row.signal;
  single = row.single;
}

-- The connections with a greater number. If an object is named, only those that have it at either end.
abbrev pub connection_descriptions : Settings → State → Option ℕ → Option ℕ → List ConnectionDescription
connection_descriptions settings state target after = map (connection_description settings state) (listed target (unwrap_or after 0) state.connections.rows)
