use Rattle.std.proofs.Common.{◌<◌, arith}
use Rattle.shared_rows.proofs.PositionLemmas.{left_before, left_behind, there_at}
use Rattle.shared_rows.proofs.index.look.Goals as goal

pub returns-then-there-number-2-clause-rest : goal.returns-then-there-number-2-clause-rest
returns-then-there-number-2-clause-rest g c =
    let is = there_at g.N.Number.value c.args.entries.now.items c.requires.rising c.args.number c.args.at c.value-there.result c.get.result
    (c.get.ensures c.get.result) (omega arith) c.value-there.ensures in
    left_behind g.N.Number.value c.args.entries.now.items c.requires.rising c.args.number c.args.window c.requires.window c.args.at c.value-there.result
    c.requires.within.0 c.requires.within.1 is c.min-behind.result c.if-there-number-2.true c.min-behind.ensures

pub returns-clause-rest : goal.returns-clause-rest
returns-clause-rest g c =
    let is = there_at g.N.Number.value c.args.entries.now.items c.requires.rising c.args.number c.args.at c.value-there.result c.get.result
    (c.get.ensures c.get.result) (omega arith) c.value-there.ensures in
    let above : c.args.number < c.value-there.result = omega arith in
    left_before g.N.Number.value c.args.entries.now.items c.requires.rising c.args.number c.args.window c.requires.window c.args.at c.value-there.result
    c.requires.within.0 c.requires.within.1 is c.min-before.result above c.min-before.ensures
