use Rattle.std.proofs.Common.{◌∙◌, ap, find, sym, refl}
use Rattle.shared_rows.specs.Rows.{rows_at}
use Rattle.connection_list.specs.Rows.{Rows, is_next}
use Rattle.connection_list.proofs.KeyedLemmas.{found_none, found_under}
use Rattle.connection_list.proofs.SeenLemmas.{seen, seen_anyhow}
use Rattle.connection_list.proofs.table.Connections.next_after.Goals as goal

pub get-requires : goal.get-requires
get-requires c = (seen_anyhow c.self.invariant c.self.view_is c.requires).routes_place

pub returns-in_err-key : goal.returns-in_err-key
returns-in_err-key c =
    let at = seen c.self.invariant c.self.view_is c.requires c.get.ensures in
    let rows = rows_at c.self.inside.rows c.args.place in
    let test = is_next c.args.sender c.args.signal c.args.after c.args.up_to in
    record {
      next = c.from_residual.ensures ∙ (found_none test rows (c.in_err-key.ensures rows at.kept)
          ∙ ap (λ (place : Rows). find test place.rows) (sym at.shows));
      sound = at.sound;
    }

pub get-requires-2 : goal.get-requires-2
get-requires-2 c =
    let at = seen c.self.invariant c.self.view_is c.requires c.get.ensures in
    let rows = rows_at c.self.inside.rows c.args.place in
    let found = found_under (is_next c.args.sender c.args.signal c.args.after c.args.up_to) rows c.in_ok-key.key at.kept.apart
    (c.in_ok-key.ensures rows at.kept) in
    record { place = at.rows_place; stands = rw found.stands refl }

pub returns : goal.returns
returns c =
    let at = seen c.self.invariant c.self.view_is c.requires c.get.ensures in
    let rows = rows_at c.self.inside.rows c.args.place in
    let test = is_next c.args.sender c.args.signal c.args.after c.args.up_to in
    let found = found_under test rows c.in_ok-key.key at.kept.apart (c.in_ok-key.ensures rows at.kept) in
    record {
      next = sym c.get-2.ensures.row ∙ (found.stands ∙ (sym found.is ∙ ap (λ (place : Rows). find test place.rows) (sym at.shows)));
      sound = at.sound;
    }
