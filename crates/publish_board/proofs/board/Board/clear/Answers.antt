use Rattle.std.proofs.Common.{◌∙◌}
use Rattle.publish_board.specs.Desk.{no_desk}
use Rattle.publish_board.proofs.GoingLemmas.{cleared, put_after}
use Rattle.publish_board.proofs.board.Board.clear.Goals as goal

pub invariant_of-self : goal.invariant_of-self
invariant_of-self c = rw c.new.ensures (cleared c.self.inside.joiners c.args.self.now c.self.inside.desks c.args.place c.requires
    (c.self.view_is ∙ c.take_out.ensures) c.self.invariant)

pub returns : goal.returns
returns c = rw c.new.ensures (put_after c.args.self.now c.self.inside.desks c.args.place _ no_desk (c.self.view_is ∙ c.take_out.ensures))
