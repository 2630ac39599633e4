use Rattle.std.proofs.Common.{◌∙◌, ◌<◌, ap, length, sym, subst}
use Rattle.shared_rows.specs.Table.{Table}
use Rattle.publish_board.specs.Desk.{Desk, no_desk}
use Rattle.publish_board.specs.Table.{desk_at}
use Rattle.publish_board.proofs.ListedLemmas.{join_unlisted}
use Rattle.publish_board.proofs.board.Board.remove_join.Goals as goal

pub invariant_of-self : goal.invariant_of-self
invariant_of-self c =
    let stood = c.get_mut-desk.ensures.value no_desk in
    join_unlisted c.self.inside.joiners c.self.inside.desks c.self.invariant c.args.place
    (rw (← c.self.view_is) at c.requires.place) c.get_mut-desk.result.now stood c.args.position c.remove_join-join.new.self c.remove_join-join.result
    (subst (λ (desk : Desk). c.args.position < length desk.joins)
    (ap (λ (t : Table Desk). desk_at t c.args.place) (sym c.self.view_is) ∙ sym stood) c.requires.position) c.remove_join-join.ensures.join
    c.remove_join-join.ensures.rest c.remove.new.self c.remove.ensures
