use Rattle.std.proofs.Common.{refl}
use Rattle.connection_list.specs.Ends.{touches}
use Rattle.connection_list.proofs.SeenLemmas.{gone_kept, gone_view, seen, seen_anyhow}
use Rattle.connection_list.proofs.table.Connections.drop_object.Goals as goal

pub get_mut-routes-requires : goal.get_mut-routes-requires
get_mut-routes-requires c = (seen_anyhow c.self.invariant c.self.view_is c.requires).routes_place

pub drop_object-requires : goal.drop_object-requires
drop_object-requires c =
    let at = seen c.self.invariant c.self.view_is c.requires c.get_mut-routes.ensures.value in record { place = at.rows_place; kept = at.kept }

pub invariant_of-self : goal.invariant_of-self
invariant_of-self c =
    gone_kept (seen c.self.invariant c.self.view_is c.requires c.get_mut-routes.ensures.value) c.drop_object.ensures

pub returns : goal.returns
returns c =
    gone_view (seen c.self.invariant c.self.view_is c.requires c.get_mut-routes.ensures.value) c.drop_object.ensures (touches c.args.object)
    (λ k d within. refl)
