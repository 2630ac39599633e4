use Rattle.std.proofs.Common.{◌≡◌, map, take}
use Rattle.std.specs.Option.{unwrap_or}
use Rattle.connection_list.specs.Rows.{listed}
use Rattle.session_model.specs.ConnectionDescriptions.{connection_description}
use Rattle.session_queries.specs.Views.{its_settings, its_state}
use Rattle.session_queries.proofs.descriptions.connections.connection_descriptions.Given as goal

-- those so far
abbrev pub invariant-rows : goal.invariant-rows
invariant-rows l =
    l.described ≡ map (connection_description (its_settings l.session) (its_state l.session))
    (take l.row-index (listed l.fn.object (unwrap_or l.fn.after 0) (its_state l.session).connections.rows))
