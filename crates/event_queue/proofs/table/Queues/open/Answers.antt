use Rattle.event_queue.proofs.QueueLemmas.{opened_by}
use Rattle.event_queue.proofs.table.Queues.open.Goals as goal

pub invariant_of-self : goal.invariant_of-self
invariant_of-self c = (opened_by c.self.invariant c.args.self.now c.self.view_is c.new.result c.new.ensures.lost c.new.ensures.mismatched c.new.ensures.logged
    c.open-2.new.self c.open.new.self c.open-2.ensures.opened c.open.ensures.opened).kept

pub returns : goal.returns
returns c =
    let its = opened_by c.self.invariant c.args.self.now c.self.view_is c.new.result c.new.ensures.lost c.new.ensures.mismatched c.new.ensures.logged
    c.open-2.new.self c.open.new.self c.open-2.ensures.opened c.open.ensures.opened in
    record { place = its.place c.open-2.result c.open-2.ensures.place; opened = its.view }
