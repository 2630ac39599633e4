use Rattle.publish_board.proofs.GoingLemmas.{IsUnderWay}
use Rattle.publish_board.proofs.board.Board.take_out.Given as goal

abbrev pub invariant-joins : goal.invariant-joins
invariant-joins l = IsUnderWay l.fn.self l.self l.place l.going l.position
