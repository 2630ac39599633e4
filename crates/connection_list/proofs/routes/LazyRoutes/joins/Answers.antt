use Rattle.std.proofs.Common.{◌∙◌, arith, ap, refl, sym}
use Rattle.std.proofs.lemmas.List.Folds.{list_any_at, list_any_none}
use Rattle.shared_rows.specs.Rows.{Keyed, rows_at}
use Rattle.connection_list.specs.declared.connection.Connection.{Connection}
use Rattle.connection_list.specs.Ends.{same_ends}
use Rattle.connection_list.specs.Routes.{links_at}
use Rattle.connection_list.proofs.KeyedLemmas.{stands_under}
use Rattle.connection_list.proofs.WalkLemmas.{led, left_first, left_front, linked_end, none_left}
use Rattle.connection_list.proofs.routes.LazyRoutes.joins.Goals as goal

pub links-init : goal.links-init
links-init c = left_first (λ keyed. same_ends c.args.new.now keyed.row) (rows_at c.args.rows.now c.args.place) c.args.self.now c.joining-group.result
    c.joining-group.ensures

pub get-requires-clause-stands : goal.get-requires-clause-stands
get-requires-clause-stands c =
    let its = led c.joining-group.result.received (rows_at c.args.rows.now c.args.place) c.args.self.now c.joining-group.result.object c.links.at
    c.key_at-key.result c.requires.kept (omega arith)
    (λ d. c.links.invariant.inside c.links.at d (omega arith) c.links-test.true) c.key_at-key.ensures.key in
    rw its.under refl

pub returns-then-same_ends : goal.returns-then-same_ends
returns-then-same_ends c =
    let rows = rows_at c.args.rows.now c.args.place in
    let test = λ (keyed : Keyed Connection). same_ends c.args.new.now keyed.row in
    let there = stands_under rows c.key_at-key.result c.get.result.now c.get.ensures.row in
    sym (list_any_at test rows there.0 _ there.1 (ap test there.2 ∙ (sym c.same_ends.ensures ∙ c.if-same_ends.true)))

pub links-preserved : goal.links-preserved
links-preserved c =
    let rows = rows_at c.args.rows.now c.args.place in
    let its = led c.joining-group.result.received rows c.args.self.now c.joining-group.result.object c.links.at
    c.key_at-key.result c.requires.kept (omega arith)
    (λ d. c.links.invariant.inside c.links.at d (omega arith) c.links-test.true) c.key_at-key.ensures.key in
    left_front c.joining-group.result.received c.joining-group.result.object (λ keyed. same_ends c.args.new.now keyed.row) rows
    (links_at c.joining-group.result.received c.joining-group.result.object c.args.self.now) c.links.at c.joining-group.result.end c.key_at-key.result
    c.get.result.now c.requires.kept.apart
    c.get.ensures.row its (sym c.same_ends.ensures ∙ c.if-same_ends.false) c.links.invariant

pub returns : goal.returns
returns c =
    let rows = rows_at c.args.rows.now c.args.place in
    let test = λ (keyed : Keyed Connection). same_ends c.args.new.now keyed.row in
    sym (list_any_none test rows (none_left c.joining-group.result.received c.joining-group.result.object test rows
    (links_at c.joining-group.result.received c.joining-group.result.object c.args.self.now) c.links.at c.joining-group.result.end
    (linked_end c.joining-group.result.received rows c.args.self.now c.joining-group.result.object c.requires.kept.routed)
    c.joining-group.ensures.others c.links.invariant (omega arith)))
