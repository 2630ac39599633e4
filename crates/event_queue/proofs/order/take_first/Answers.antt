use Rattle.std.proofs.Common.{◌∙◌, ◌-◌, ap, sym, subst}
use Rattle.event_queue.specs.Inside.{IsCounted, count_of, is_dropped}
use Rattle.event_queue.proofs.OrderLemmas.{taking_first, taking_on}
use Rattle.event_queue.proofs.order.take_first.Goals as goal

pub returns-then-not-was_dropped-clause-rest : goal.returns-then-not-was_dropped-clause-rest
returns-then-not-was_dropped-clause-rest c =
    (taking_first c.rows.invariant c.in-Some.ensures.rest (sym c.in-Some.ensures.first) c.subtract-was_dropped.new.self
    (subst (λ n. IsCounted c.rows.objects c.subtract-was_dropped.new.self n (count_of c.rows.objects n - 1)) c.object.ensures
    c.subtract-was_dropped.ensures.counted) c.subtract-was_dropped.ensures.marks
    (ap (is_dropped c.rows.objects) (sym c.object.ensures) ∙ (sym c.subtract-was_dropped.ensures.was ∙ c.if-not-was_dropped.true))).1

pub rows-preserved : goal.rows-preserved
rows-preserved c =
    taking_on c.rows.invariant c.in-Some.ensures.rest (sym c.in-Some.ensures.first) c.subtract-was_dropped.new.self
    (subst (λ n. IsCounted c.rows.objects c.subtract-was_dropped.new.self n (count_of c.rows.objects n - 1)) c.object.ensures
    c.subtract-was_dropped.ensures.counted) c.subtract-was_dropped.ensures.marks
    (ap (is_dropped c.rows.objects) (sym c.object.ensures) ∙ (sym c.subtract-was_dropped.ensures.was ∙ c.if-not-was_dropped.false))
