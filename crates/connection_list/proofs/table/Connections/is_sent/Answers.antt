use Rattle.std.proofs.Common.{◌≡◌, ◌∙◌, Option, Some, None, find, is_some, sym, refl, ap}
use Rattle.std.specs.Option.{option_map}
use Rattle.shared_rows.specs.Rows.{Keyed, rows_at}
use Rattle.connection_list.specs.declared.connection.Connection.{Connection}
use Rattle.connection_list.specs.Rows.{is_next}
use Rattle.connection_list.proofs.KeyedLemmas.{find_map}
use Rattle.connection_list.proofs.SeenLemmas.{seen, seen_anyhow}
use Rattle.connection_list.proofs.table.Connections.is_sent.Goals as goal

pub get-routes-requires : goal.get-routes-requires
get-routes-requires c = (seen_anyhow c.self.invariant c.self.view_is c.requires).routes_place

-- there is a key where there is a row
as_row : (found : Option (Keyed Connection)) → is_some (option_map (λ keyed. keyed.key) found) ≡ is_some (option_map (λ keyed. keyed.row) found)
as_row None = refl
as_row (Some keyed) = refl

pub returns : goal.returns
returns c =
    let at = seen c.self.invariant c.self.view_is c.requires c.get-routes.ensures in
    let rows = rows_at c.self.inside.rows c.args.place in
    record {
      sent = rw (at.shows, sym c.last_number.ensures) (c.is_some.ensures ∙ (ap is_some (c.next_sent-key.ensures rows at.kept)
          ∙ (as_row (find (λ keyed. is_next c.args.sender c.args.signal 0 c.last_number.result keyed.row) rows)
          ∙ sym (ap is_some (find_map (is_next c.args.sender c.args.signal 0 c.last_number.result) rows)))));
      sound = at.sound;
    }
