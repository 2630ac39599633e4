use Rattle.std.proofs.Common.{Some, subst}
use Rattle.publish_board.specs.Joiners.{AreListed}
use Rattle.publish_board.proofs.ListedLemmas.{next_joins}
use Rattle.publish_board.proofs.board.Board.next_listener.Goals as goal

pub returns-clause-next : goal.returns-clause-next
returns-clause-next c = next_joins c.self.inside.joiners c.args.self.now (subst (AreListed c.self.inside.joiners) c.self.view_is c.self.invariant)
    (record { from = c.args.from.now; name = Some c.args.name.now }) c.args.least c.next.result c.next.ensures.first
