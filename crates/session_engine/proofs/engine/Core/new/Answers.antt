use Rattle.session_engine.proofs.EngineLemmas.{whole_new}
use Rattle.session_engine.proofs.engine.Core.new.Goals as goal

pub invariant_of-result-2 : goal.invariant_of-result-2
invariant_of-result-2 c = whole_new _ (record { table = c.class_row-base.ensures.table; functors = c.requires.each }) _ c.in_ok-layouts.layouts _
    c.with_hasher.ensures.empty c.new.ensures.forests c.new.ensures.stores c.new.ensures.graphs c.new.ensures.connections c.new.ensures.queues
    c.new.ensures.desks c.new.ensures.failed
    c.new.ensures.layouts c.in_ok-layouts.ensures.each
