use Rattle.std.proofs.Common.{arith, refl, rules, ◌<◌, ◌-◌}
use Rattle.connection_list.specs.Ends.{matches}
use Rattle.connection_list.proofs.SeenLemmas.{gone_count, gone_kept, gone_place, gone_view, seen, seen_anyhow}
use Rattle.connection_list.proofs.table.Connections.disconnect_matching.Goals as goal

pub len-before-requires : goal.len-before-requires
len-before-requires c = (seen_anyhow c.self.invariant c.self.view_is c.requires).rows_place

pub get_mut-routes-requires : goal.get_mut-routes-requires
get_mut-routes-requires c = (seen_anyhow c.self.invariant c.self.view_is c.requires).routes_place

pub disconnect_matching-requires : goal.disconnect_matching-requires
disconnect_matching-requires c =
    let at = seen c.self.invariant c.self.view_is c.requires c.get_mut-routes.ensures.value in record { place = at.rows_place; kept = at.kept }

pub len-requires : goal.len-requires
len-requires c = gone_place (seen c.self.invariant c.self.view_is c.requires c.get_mut-routes.ensures.value) c.disconnect_matching.ensures

pub overflow_sub-result : goal.overflow_sub-result
overflow_sub-result c = (gone_count (seen c.self.invariant c.self.view_is c.requires c.get_mut-routes.ensures.value) c.disconnect_matching.ensures
    (matches c.args.pattern.now) (λ k d within. refl) c.len-before.ensures.len c.len.ensures.len).0

pub overflow_cast-result : goal.overflow_cast-result
overflow_cast-result c =
    let count = gone_count (seen c.self.invariant c.self.view_is c.requires c.get_mut-routes.ensures.value) c.disconnect_matching.ensures
    (matches c.args.pattern.now) (λ k d within. refl) c.len-before.ensures.len c.len.ensures.len in
    let short : c.len-before.result - c.len.result < 4294967296 = omega arith in
    search rules

pub invariant_of-self : goal.invariant_of-self
invariant_of-self c = gone_kept (seen c.self.invariant c.self.view_is c.requires c.get_mut-routes.ensures.value) c.disconnect_matching.ensures

pub returns : goal.returns
returns c =
    let at = seen c.self.invariant c.self.view_is c.requires c.get_mut-routes.ensures.value in
    let gone = c.disconnect_matching.ensures in
    let test = matches c.args.pattern.now in
    record {
      count = (gone_count at gone test (λ k d within. refl) c.len-before.ensures.len c.len.ensures.len).2;
      rows = gone_view at gone test (λ k d within. refl);
    }
