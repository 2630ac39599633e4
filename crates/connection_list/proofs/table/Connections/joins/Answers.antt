use Rattle.std.proofs.Common.{◌∙◌, ap, sym}
use Rattle.std.specs.List.{list_any}
use Rattle.shared_rows.specs.Rows.{rows_at}
use Rattle.connection_list.specs.Ends.{same_ends}
use Rattle.connection_list.specs.Rows.{Rows}
use Rattle.connection_list.proofs.KeyedLemmas.{any_map}
use Rattle.connection_list.proofs.SeenLemmas.{seen, seen_anyhow}
use Rattle.connection_list.proofs.table.Connections.joins.Goals as goal

pub get-requires : goal.get-requires
get-requires c = (seen_anyhow c.self.invariant c.self.view_is c.requires).routes_place

pub joins-requires : goal.joins-requires
joins-requires c = let at = seen c.self.invariant c.self.view_is c.requires c.get.ensures in record { place = at.rows_place; kept = at.kept }

pub returns : goal.returns
returns c =
    let at = seen c.self.invariant c.self.view_is c.requires c.get.ensures in
    c.joins.ensures ∙ (sym (any_map (same_ends c.args.new.now) (rows_at c.self.inside.rows c.args.place))
    ∙ ap (λ (place : Rows). list_any (same_ends c.args.new.now) place.rows) (sym at.shows))
