use Rattle.std.proofs.Common.{◌∙◌, ◌-◌, ◌==◌, arith, not, refl, sym}
use Rattle.shared_rows.specs.Rows.{Keyed, rows_at}
use Rattle.connection_list.specs.declared.connection.Connection.{Connection}
use Rattle.connection_list.specs.Ends.{matches}
use Rattle.connection_list.specs.Routes.{links_at}
use Rattle.connection_list.proofs.GoneLemmas.{all_gone, none_gone, one_more_gone, still_place}
use Rattle.connection_list.proofs.KeyedLemmas.{stands_under}
use Rattle.connection_list.proofs.WalkLemmas.{led, left_first, left_front, left_gone, linked_end, loses, none_left}
use Rattle.connection_list.proofs.routes.LazyRoutes.disconnect_matching.Goals as goal

pub links-init : goal.links-init
links-init c =
    let test = λ (keyed : Keyed Connection). matches c.args.pattern.now keyed.row in (
      none_gone test c.args.place c.args.rows.now c.args.self.now c.requires.kept,
      left_first test (rows_at c.args.rows.now c.args.place) c.args.self.now c.group-group.result c.group-group.ensures,
    )

pub key_at-key-requires : goal.key_at-key-requires
key_at-key-requires c = omega arith

pub get-requires-clause-place : goal.get-requires-clause-place
get-requires-clause-place c = still_place (λ keyed. matches c.args.pattern.now keyed.row) c.args.place c.args.rows.now c.links.rows c.args.self.now c.links.self
    c.links.invariant.0 c.requires.place

pub get-requires-clause-stands : goal.get-requires-clause-stands
get-requires-clause-stands c =
    let its = led c.group-group.result.received (rows_at c.links.rows c.args.place) c.links.self c.group-group.result.object c.links.at
    c.key_at-key.result c.links.invariant.0.kept (omega arith)
    (λ d. c.links.invariant.1.inside c.links.at d (omega arith) c.links-test.true) c.key_at-key.ensures.key in
    rw its.under refl

pub take_out-requires-clause-kept : goal.take_out-requires-clause-kept
take_out-requires-clause-kept c = c.links.invariant.0.kept

pub links-preserved-then-matches : goal.links-preserved-then-matches
links-preserved-then-matches c =
    let test = λ (keyed : Keyed Connection). matches c.args.pattern.now keyed.row in
    let rows = rows_at c.links.rows c.args.place in
    let end = c.group-group.result.received in
    let object = c.group-group.result.object in
    let its = led end rows c.links.self c.group-group.result.object c.links.at c.key_at-key.result
    c.links.invariant.0.kept (omega arith)
    (λ d. c.links.invariant.1.inside c.links.at d (omega arith) c.links-test.true) c.key_at-key.ensures.key in
    let there = stands_under rows c.key_at-key.result c.get.result.now c.get.ensures.row in (
      one_more_gone test c.args.place c.args.rows.now c.links.rows c.args.self.now c.links.self c.links.invariant.0 c.take_out.new.rows c.take_out.new.self
          c.key_at-key.result (
            there.0,
            record { key = c.key_at-key.result; row = c.get.result.now },
            there.1,
            there.2,
            (refl, sym c.matches.ensures ∙ c.if-matches.true),
          ) c.take_out.ensures.gone,
      left_gone end object test rows (rows_at c.take_out.new.rows c.args.place) (links_at end object c.links.self)
          (links_at end object c.take_out.new.self) c.links.at c.links.end (c.links.end - 1) c.key_at-key.result c.key_at-key.ensures.sound
          (omega arith) c.links-test.true
          (λ keyed. not (keyed.key == c.key_at-key.result)) c.take_out.ensures.gone.rows its
          (loses end object (record { key = c.key_at-key.result; row = its.row }) c.links.self c.take_out.new.self its.has
          (c.take_out.ensures.links end its.row its.under)) c.links.invariant.1,
    )

pub links-preserved : goal.links-preserved
links-preserved c =
    let test = λ (keyed : Keyed Connection). matches c.args.pattern.now keyed.row in
    let rows = rows_at c.links.rows c.args.place in
    let end = c.group-group.result.received in
    let object = c.group-group.result.object in
    let its = led end rows c.links.self c.group-group.result.object c.links.at c.key_at-key.result
    c.links.invariant.0.kept (omega arith)
    (λ d. c.links.invariant.1.inside c.links.at d (omega arith) c.links-test.true) c.key_at-key.ensures.key in (
      c.links.invariant.0,
      left_front end object test rows (links_at end object c.links.self) c.links.at c.links.end c.key_at-key.result c.get.result.now
          c.links.invariant.0.kept.apart c.get.ensures.row its (sym c.matches.ensures ∙ c.if-matches.false) c.links.invariant.1,
    )

pub returns : goal.returns
returns c =
    let test = λ (keyed : Keyed Connection). matches c.args.pattern.now keyed.row in
    let rows = rows_at c.links.rows c.args.place in
    let end = c.group-group.result.received in
    let object = c.group-group.result.object in
    all_gone test c.args.place c.args.rows.now c.links.rows c.args.self.now c.links.self c.links.invariant.0
    (none_left end object test rows (links_at end object c.links.self) c.links.at c.links.end
    (linked_end end rows c.links.self object c.links.invariant.0.kept.routed) c.group-group.ensures.others c.links.invariant.1
    (omega arith))
