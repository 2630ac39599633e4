use Rattle.std.proofs.Common.{◌∙◌, sym, ap, arith, rules}
use Rattle.std.specs.Ordering.{is_eq, is_lt}
use Rattle.std.proofs.lemmas.List.Sorted.{IsPartitionPoint-from_clause}
use Rattle.shared_rows.proofs.LinkLemmas.{below_parted, equal_from, seat_found, seat_parted}
use Rattle.shared_rows.proofs.links.seat_by_halves.Goals as goal

pub returns-then-at-len : goal.returns-then-at-len
returns-then-at-len g c =
    let point = IsPartitionPoint-from_clause (λ other. is_lt (g.K.Ord.cmp other c.args.link)) c.args.links.now.items c.partition_point-at.result
    c.partition_point-at.ensures.partitioned (below_parted g.met.K.Ord.total _ c.requires _) (λ a r k called. search rules) in
    seat_parted g.met.K.Ord.total _ c.requires _ c.partition_point-at.result c.partition_point-at.ensures.bound point
    (λ d within. absurd (omega arith))

pub returns-then-is_eq : goal.returns-then-is_eq
returns-then-is_eq g c =
    seat_found g.met.K.Ord.total _ c.requires _ c.partition_point-at.result
    (omega arith)
    (λ d. ap (λ other. g.K.Ord.cmp other c.args.link) (sym (c.get.ensures d)) ∙ (sym c.cmp.ensures ∙ equal_from c.cmp.result (sym c.if-is_eq.ensures)))

pub returns-else-is_eq : goal.returns-else-is_eq
returns-else-is_eq g c =
    let point = IsPartitionPoint-from_clause (λ other. is_lt (g.K.Ord.cmp other c.args.link)) c.args.links.now.items c.partition_point-at.result
    c.partition_point-at.ensures.partitioned (below_parted g.met.K.Ord.total _ c.requires _) (λ a r k called. search rules) in
    seat_parted g.met.K.Ord.total _ c.requires _ c.partition_point-at.result c.partition_point-at.ensures.bound point
    (λ d within. ap (λ other. is_eq (g.K.Ord.cmp other c.args.link)) (sym (c.get.ensures d)) ∙ (ap is_eq (sym c.cmp.ensures) ∙ sym c.if-is_eq.ensures))
