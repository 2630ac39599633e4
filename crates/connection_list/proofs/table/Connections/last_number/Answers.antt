use Rattle.connection_list.proofs.SeenLemmas.{seen, seen_anyhow}
use Rattle.connection_list.proofs.table.Connections.last_number.Goals as goal

pub get-requires : goal.get-requires
get-requires c = (seen_anyhow c.self.invariant c.self.view_is c.requires).routes_place

pub returns : goal.returns
returns c =
    let at = seen c.self.invariant c.self.view_is c.requires c.get.ensures in
    record { number = rw at.shows c.last_number.ensures; sound = at.sound }
