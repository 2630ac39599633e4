use Rattle.publish_board.specs.Desk.{no_desk}
use Rattle.publish_board.proofs.ListedLemmas.{put_back}
use Rattle.publish_board.proofs.board.Board.publish.Goals as goal

pub returns-clause-err : goal.returns-clause-err
returns-clause-err c = rw (← c.self.view_is)
    (put_back c.publish.result c.self.inside.desks c.args.place c.get_mut.result.now c.publish.new.self (c.get_mut.ensures.value no_desk) c.publish.ensures.err)
