use Rattle.std.proofs.Common.{arith}
use Rattle.shared_rows.proofs.KeptLemmas.{entry_shown, entry_some, seen_by}
use Rattle.shared_rows.proofs.rows.SharedRows.at.Goals as goal

pub get-requires-2 : goal.get-requires-2
get-requires-2 g c = omega (arith, (seen_by c.self.invariant c.self.view_is c.requires.place c.get.ensures).count)

pub index-requires : goal.index-requires
index-requires g c = entry_some (seen_by c.self.invariant c.self.view_is c.requires.place c.get.ensures) c.args.position c.requires.stands
    (c.get-2.ensures c.get-2.result)

pub returns : goal.returns
returns g c = entry_shown (seen_by c.self.invariant c.self.view_is c.requires.place c.get.ensures) c.args.position c.requires.stands
    (c.get-2.ensures c.get-2.result) c.index.ensures
