use Rattle.std.proofs.Common.{not}
use Rattle.publish_board.specs.Rows.{has_name}
use Rattle.publish_board.proofs.DeskLemmas.{sound_without}
use Rattle.publish_board.proofs.lazy_desk.LazyDesk.unpublish.Goals as goal

pub invariant_of-self-2 : goal.invariant_of-self-2
invariant_of-self-2 c =
    sound_without c.self.inside.made c.in-Some.rows c.deref_mut.result.now c.unpublish.new.self
    (λ row. not (has_name c.args.name.now row)) c.self.invariant c.in-Some.is c.deref_mut.ensures.value c.unpublish.ensures
