use Rattle.std.proofs.Common.{◌≡◌, ◌∙◌, ap, false, is_some, sym}
use Rattle.std.specs.List.{list_any}
use Rattle.shared_rows.specs.Table.{with_place}
use Rattle.shared_rows.proofs.ForCallers.{with_same}
use Rattle.shared_rows.specs.Rows.{rows_at}
use Rattle.connection_list.specs.Rows.{has_number, no_rows}
use Rattle.connection_list.specs.Table.{rows_at as place_at}
use Rattle.connection_list.proofs.KeyedLemmas.{found_none, found_under}
use Rattle.connection_list.proofs.SeenLemmas.{gone_kept, gone_view, numbered_alike, seen, seen_anyhow}
use Rattle.connection_list.proofs.WithoutLemmas.{any_found, filter_all}
use Rattle.connection_list.proofs.table.Connections.disconnect_one.Goals as goal

pub find-requires : goal.find-requires
find-requires c = (seen_anyhow c.self.invariant c.self.view_is c.requires).rows_place

pub take_out-requires-clause-kept : goal.take_out-requires-clause-kept
take_out-requires-clause-kept c = (seen c.self.invariant c.self.view_is c.requires c.get_mut-routes.ensures.value).kept

pub invariant_of-self : goal.invariant_of-self
invariant_of-self c =
    gone_kept (seen c.self.invariant c.self.view_is c.requires c.get_mut-routes.ensures.value) c.take_out.ensures.gone

pub returns-in-Some : goal.returns-in-Some
returns-in-Some c =
    let at = seen c.self.invariant c.self.view_is c.requires c.get_mut-routes.ensures.value in
    let rows = rows_at c.self.inside.rows c.args.place in
    let found = found_under (has_number c.args.number) rows c.in-Some.key at.kept.apart c.in-Some.ensures.found in
    record {
      stood = rw at.shows (sym (ap is_some found.is) ∙ any_found (has_number c.args.number) _);
      rows = gone_view at c.take_out.ensures.gone (has_number c.args.number)
          (numbered_alike rows c.get_mut-routes.result.now c.args.number c.in-Some.key at.kept c.in-Some.ensures.stands);
    }

pub returns-in-None : goal.returns-in-None
returns-in-None c =
    let at = seen_anyhow c.self.invariant c.self.view_is c.requires in
    let none = found_none (has_number c.args.number) (rows_at c.self.inside.rows c.args.place) c.in-None.ensures.found in
    let stood : false ≡ list_any (has_number c.args.number) (place_at c.args.self.now c.args.place).rows =
    rw at.shows (ap is_some none ∙ any_found (has_number c.args.number) _) in
    record {
      stood = stood;
      rows = sym (ap
          (λ rows. with_place c.args.self.now c.args.place (record { rows = rows; last_number = (place_at c.args.self.now c.args.place).last_number }))
          (filter_all (has_number c.args.number) (place_at c.args.self.now c.args.place).rows (sym stood))
          ∙ with_same no_rows c.args.self.now c.args.place);
    }
