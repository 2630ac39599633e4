use Rattle.std.proofs.Common.{◌∙◌, ap, find, sym}
use Rattle.shared_rows.specs.Rows.{rows_at}
use Rattle.connection_list.specs.Rows.{Rows, has_number}
use Rattle.connection_list.proofs.KeyedLemmas.{found_none, found_under}
use Rattle.connection_list.proofs.SeenLemmas.{seen_anyhow}
use Rattle.connection_list.proofs.table.Connections.row.Goals as goal

pub find-requires : goal.find-requires
find-requires c = (seen_anyhow c.self.invariant c.self.view_is c.requires).rows_place

pub returns-in_err-key : goal.returns-in_err-key
returns-in_err-key c =
    let at = seen_anyhow c.self.invariant c.self.view_is c.requires in
    record {
      row = c.from_residual.ensures ∙ (found_none (has_number c.args.number) (rows_at c.self.inside.rows c.args.place) c.in_err-key.ensures.found
          ∙ ap (λ (place : Rows). find (has_number c.args.number) place.rows) (sym at.shows));
      sound = at.sound;
    }

pub returns : goal.returns
returns c =
    let at = seen_anyhow c.self.invariant c.self.view_is c.requires in
    let found = found_under (has_number c.args.number) (rows_at c.self.inside.rows c.args.place) c.in_ok-key.key at.kept.apart c.in_ok-key.ensures.found in
    record {
      row = sym c.get.ensures.row ∙ (found.stands ∙ (sym found.is ∙ ap (λ (place : Rows). find (has_number c.args.number) place.rows) (sym at.shows)));
      sound = at.sound;
    }
