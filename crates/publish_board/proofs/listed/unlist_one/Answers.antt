use Rattle.std.proofs.Common.{ap, arith}
use Rattle.publish_board.proofs.PlaceLemmas.{found_there, none_left, one_fewer}
use Rattle.publish_board.proofs.listed.unlist_one.Goals as goal

pub returns-then-listed-eq0 : goal.returns-then-listed-eq0
returns-then-listed-eq0 c =
    none_left c.args.list.now.links c.args.place c.remove.new.self.links c.in-Some.listed (ap (λ list. list.links) c.remove.ensures) c.in-Some.ensures
    c.if-listed-eq0.true

pub replace-requires : goal.replace-requires
replace-requires c = (found_there c.args.list.now.links c.args.place c.in-Some.listed c.in-Some.ensures).0

pub returns : goal.returns
returns c =
    one_fewer c.args.list.now.links c.args.place c.replace.new.self.links c.in-Some.listed _ (ap (λ list. list.links) c.replace.ensures) c.in-Some.ensures
    (omega (arith, c.if-listed-eq0.false))
