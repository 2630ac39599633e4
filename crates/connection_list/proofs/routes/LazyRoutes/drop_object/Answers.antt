use Rattle.shared_rows.specs.Rows.{rows_at}
use Rattle.connection_list.specs.Ends.{touches}
use Rattle.connection_list.proofs.GoneLemmas.{all_gone, fewer, one_more_gone, some_under}
use Rattle.connection_list.proofs.routes.LazyRoutes.drop_object.Goals as goal

pub take_out-requires-clause-stands : goal.take_out-requires-clause-stands
take_out-requires-clause-stands c =
    let rows = rows_at c.keys.rows c.args.place in
    some_under (λ keyed. touches c.args.object keyed.row) rows c.in-Some.key c.keys.invariant.kept.apart
    (c.in-Some.ensures.found rows c.keys.invariant.kept.routed)

pub keys-smaller : goal.keys-smaller
keys-smaller c =
    let rows = rows_at c.keys.rows c.args.place in
    let some = some_under (λ keyed. touches c.args.object keyed.row) rows c.in-Some.key c.keys.invariant.kept.apart
    (c.in-Some.ensures.found rows c.keys.invariant.kept.routed) in
    fewer (λ keyed. touches c.args.object keyed.row) c.args.place c.args.rows.now c.keys.rows c.args.self.now c.keys.self c.keys.invariant c.take_out.new.rows
    c.take_out.new.self c.in-Some.key some c.take_out.ensures.gone

pub keys-preserved : goal.keys-preserved
keys-preserved c =
    let rows = rows_at c.keys.rows c.args.place in
    one_more_gone (λ keyed. touches c.args.object keyed.row) c.args.place c.args.rows.now c.keys.rows c.args.self.now c.keys.self c.keys.invariant
    c.take_out.new.rows c.take_out.new.self c.in-Some.key (c.in-Some.ensures.found rows c.keys.invariant.kept.routed) c.take_out.ensures.gone

pub returns : goal.returns
returns c =
    let rows = rows_at c.keys.rows c.args.place in
    all_gone (λ keyed. touches c.args.object keyed.row) c.args.place c.args.rows.now c.keys.rows c.args.self.now c.keys.self c.keys.invariant
    (c.in_default.ensures.none rows c.keys.invariant.kept.routed)
