use Rattle.std.proofs.Common.{◌∙◌, ◌+◌, ◌++◌, ◌≤◌, [], drop, filter, length, take, sym, ap, arith, append-nil}
use Rattle.std.proofs.lemmas.List.{drop_all}
use Rattle.connection_list.specs.Rows.{is_listed}
use Rattle.connection_list.specs.Table.{rows_at}
use Rattle.connection_list.proofs.ListingLemmas.{found_few, found_on, next_row, take_first, take_short}
use Rattle.connection_list.proofs.SeenLemmas.{seen_anyhow, shown_count}
use Rattle.connection_list.proofs.table.Connections.listed.Goals as goal

pub len-position-end-requires : goal.len-position-end-requires
len-position-end-requires c = (seen_anyhow c.self.invariant c.self.view_is c.requires).rows_place

pub rows-init : goal.rows-init
rows-init c =
    record {
      all = ap (λ found. found ++ filter (is_listed c.args.object c.args.after) (rows_at c.args.self.now c.args.place).rows) c.new-found.ensures;
      few = omega (arith, ap length c.new-found.ensures);
    }

pub returns-then-len-eq-LISTED : goal.returns-then-len-eq-LISTED
returns-then-len-eq-LISTED c = sym (take_first 1000 c.rows.found _ (sym c.len.ensures ∙ c.if-len-eq-LISTED.true)) ∙ ap (take 1000) c.rows.invariant.all

pub rows-preserved : goal.rows-preserved
rows-preserved c =
    let test = is_listed c.args.object c.args.after in
    let rows = (rows_at c.args.self.now c.args.place).rows in
    let seen = seen_anyhow c.self.invariant c.self.view_is c.requires in
    let next = next_row seen c.rows.position _ _ c.at.ensures (omega arith) in
    record {
      all =
          found_on test c.rows.found _ (drop (c.rows.position + 1) rows) _ c.in_ok-add_listed.ensures
          ∙ (ap (λ left. c.rows.found ++ filter test left) (sym next) ∙ c.rows.invariant.all);
      few = omega (arith, found_few test c.rows.found _ [] _ c.in_ok-add_listed.ensures);
    }

pub returns : goal.returns
returns c =
    let test = is_listed c.args.object c.args.after in
    let rows = (rows_at c.args.self.now c.args.place).rows in
    let seen = seen_anyhow c.self.invariant c.self.view_is c.requires in
    let whole : length rows ≤ c.rows.position = omega (arith, shown_count seen) in
    sym (take_short 1000 c.rows.found c.rows.invariant.few)
    ∙ ap (take 1000) (sym (append-nil c.rows.found)
    ∙ (ap (λ left. c.rows.found ++ filter test left) (sym (drop_all c.rows.position rows whole)) ∙ c.rows.invariant.all))
