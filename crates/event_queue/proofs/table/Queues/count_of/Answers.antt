use Rattle.std.proofs.Common.{◌∙◌, cond, sym, ap, rules}
use Rattle.event_queue.specs.declared.object_counts.Count.{Count}
use Rattle.event_queue.proofs.QueueLemmas.{of_logs, waits_for}
use Rattle.event_queue.proofs.table.Queues.count_of.Goals as goal

pub get-requires : goal.get-requires
get-requires c = search (rules, of_logs)

pub returns-then-count : goal.returns-then-count
returns-then-count c =
    ap (λ b. cond b 0 c.count-count.result.rows) (sym c.if-count.true)
    ∙ (ap (λ (count : Count). cond count.is_dropped 0 count.rows) c.count-count.ensures
    ∙ waits_for c.self.invariant c.self.view_is c.requires c.get.ensures c.args.object)

pub returns-else-count : goal.returns-else-count
returns-else-count c =
    ap (λ b. cond b 0 c.count-count.result.rows) (sym c.if-count.false)
    ∙ (ap (λ (count : Count). cond count.is_dropped 0 count.rows) c.count-count.ensures
    ∙ waits_for c.self.invariant c.self.view_is c.requires c.get.ensures c.args.object)
