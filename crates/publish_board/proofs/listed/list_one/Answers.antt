use Rattle.std.proofs.lemmas.Result.{on_ok_weaker}
use Rattle.publish_board.proofs.PlaceLemmas.{one_more}
use Rattle.publish_board.proofs.listed.list_one.Goals as goal

pub returns-clause-ok : goal.returns-clause-ok
returns-clause-ok c = on_ok_weaker c.insert.result (λ with_place.
    one_more c.args.list.now.links c.args.place c.insert.new.self.links c.count-further.result with_place c.count-further.ensures) c.insert.ensures.ok
