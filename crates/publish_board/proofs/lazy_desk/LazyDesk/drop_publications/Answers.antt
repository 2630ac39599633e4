use Rattle.std.proofs.Common.{◌==◌, not}
use Rattle.publish_board.proofs.DeskLemmas.{sound_without}
use Rattle.publish_board.proofs.lazy_desk.LazyDesk.drop_publications.Goals as goal

pub invariant_of-self-2 : goal.invariant_of-self-2
invariant_of-self-2 c =
    sound_without c.self.inside.made c.in-Some.rows c.deref_mut.result.now c.drop_publications.new.self
    (λ row. not (row.object == c.args.object)) c.self.invariant c.in-Some.is c.deref_mut.ensures.value c.drop_publications.ensures
