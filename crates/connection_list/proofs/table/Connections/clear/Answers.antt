use Rattle.std.proofs.Common.{◌∙◌, ap}
use Rattle.connection_list.specs.Table.{with_rows}
use Rattle.connection_list.proofs.SeenLemmas.{empty_kept, empty_shows, kept_changed, seen_anyhow, view_changed}
use Rattle.connection_list.proofs.table.Connections.clear.Goals as goal

pub clear-requires : goal.clear-requires
clear-requires c = (seen_anyhow c.self.invariant c.self.view_is c.requires).rows_place

pub get_mut-requires : goal.get_mut-requires
get_mut-requires c = (seen_anyhow c.self.invariant c.self.view_is c.requires).routes_place

pub invariant_of-self : goal.invariant_of-self
invariant_of-self c = rw c.clear.ensures
    (kept_changed (seen_anyhow c.self.invariant c.self.view_is c.requires) (empty_kept c.new.result c.new.ensures.number c.new.ensures.routed))

pub returns : goal.returns
returns c =
    rw c.clear.ensures (view_changed (seen_anyhow c.self.invariant c.self.view_is c.requires)
    (empty_kept c.new.result c.new.ensures.number c.new.ensures.routed)
    ∙ ap (with_rows c.args.self.now c.args.place) (empty_shows c.new.result c.new.ensures.number))
