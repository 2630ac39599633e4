use Rattle.binding_graph.proofs.show.show_touched.Goals as goal

pub returns-clause-shown : goal.returns-clause-shown
returns-clause-shown c = simp c.put_in_order.ensures at c.show_each.ensures.shown

pub returns-clause-absent : goal.returns-clause-absent
returns-clause-absent c = simp c.put_in_order.ensures at c.show_each.ensures.absent
