use Rattle.std.proofs.Common.{◌≡◌, ◌∙◌, true, not, refl, rules}
use Rattle.std.specs.Ordering.{is_ge, is_lt}
use Rattle.std.proofs.lemmas.List.Sorted.{IsPartitionPoint-from_clause}
use Rattle.shared_rows.proofs.LinkLemmas.{below_parted, find_front, first_at, not_less}
use Rattle.shared_rows.proofs.links.first_from_front.Goals as goal

pub returns-in-Some : goal.returns-in-Some
returns-in-Some g c =
    let high : is_ge (g.K.Ord.cmp c.in-Some.first c.args.link) ≡ true = search rules in
    find_front (λ other. not (is_lt (g.K.Ord.cmp other c.args.link))) _ c.in-Some.first (c.in-Some.ensures.variant.0 refl) c.in-Some.ensures.lookup
    (not_less (g.K.Ord.cmp c.in-Some.first c.args.link) high)

pub returns-in_default : goal.returns-in_default
returns-in_default g c =
    let point = IsPartitionPoint-from_clause (λ other. is_lt (g.K.Ord.cmp other c.args.link)) c.args.links.now.items c.partition_point-at.result
    c.partition_point-at.ensures.partitioned (below_parted g.met.K.Ord.total _ c.requires _) (λ a r k called. search rules) in
    c.link_at.ensures ∙ first_at g.met.K.Ord.total _ c.requires _ c.partition_point-at.result point
