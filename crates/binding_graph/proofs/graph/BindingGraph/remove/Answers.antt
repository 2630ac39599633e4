use Rattle.std.proofs.Common.{arith}
use Rattle.binding_graph.proofs.RemovalLemmas.{let_go_in_step, removed_store}
use Rattle.binding_graph.proofs.graph.BindingGraph.remove.Goals as goal

pub settle-requires-clause-step : goal.settle-requires-clause-step
settle-requires-clause-step c =
    rw c.remove_object.ensures
    (let_go_in_step c.args.object c.drop_object.new.self c.take_written.new.self c.requires.ready
    c.drain.ensures.stores c.drop_object.ensures.stores c.take_written.ensures.shelves
    c.forget_object.new.kept c.drain.new.self c.forget_object.new.pending c.drain.ensures.taken
    (λ number within. c.forget_object.ensures.marked number (omega (arith, within, c.declared-count.ensures)))
    c.forget_object.ensures.step c.drain.ensures.kept (rw (← c.self.view_is) at c.requires.step))

pub returns-clause-told : goal.returns-clause-told
returns-clause-told c =
    let store = removed_store c.args.object c.drop_object.new.self c.take_written.new.self c.requires.ready c.drain.ensures.stores
    c.drop_object.ensures.stores c.take_written.ensures.shelves in
    rw (← c.self.view_is, ← c.remove_object.ensures, ← store) c.settle.ensures.told

pub returns-clause-ok : goal.returns-clause-ok
returns-clause-ok c =
    let store = removed_store c.args.object c.drop_object.new.self c.take_written.new.self c.requires.ready c.drain.ensures.stores
    c.drop_object.ensures.stores c.take_written.ensures.shelves in
    rw (← c.self.view_is, ← c.remove_object.ensures, ← store) c.settle.ensures.ok
