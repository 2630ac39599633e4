use Rattle.std.proofs.Common.{None, subst}
use Rattle.publish_board.specs.Joiners.{AreListed}
use Rattle.publish_board.proofs.ListedLemmas.{next_joins}
use Rattle.publish_board.proofs.board.Board.next_joiner.Goals as goal

pub returns : goal.returns
returns c = next_joins c.self.inside.joiners c.args.self.now (subst (AreListed c.self.inside.joiners) c.self.view_is c.self.invariant)
    (record { from = c.args.from.now; name = None }) c.args.least c.next.result c.next.ensures.first
