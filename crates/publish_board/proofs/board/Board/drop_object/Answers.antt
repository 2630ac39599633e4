use Rattle.std.proofs.Common.{◌∙◌}
use Rattle.publish_board.specs.Desk.{no_desk}
use Rattle.publish_board.proofs.GoingLemmas.{dropped}
use Rattle.publish_board.proofs.board.Board.drop_object.Goals as goal

pub returns : goal.returns
returns c =
    dropped c.args.self.now c.self.inside.desks c.args.place c.args.object c.requires
    (c.self.view_is ∙ c.take_out.ensures) c.get_mut.result.now c.drop_publications.new.self (c.get_mut.ensures.value no_desk) c.drop_publications.ensures
