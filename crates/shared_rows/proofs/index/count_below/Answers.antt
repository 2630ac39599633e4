use Rattle.std.proofs.Common.{◌∙◌, ◌-◌, ◌<◌, nat_lt, slice_index_or, length, refl, sym, ap, arith, rules}
use Rattle.std.proofs.lemmas.List.Sorted.{IsPartitionPoint-from_clause}
use Rattle.shared_rows.proofs.PositionLemmas.{counted, counted_all, parted}
use Rattle.shared_rows.proofs.index.count_below.Goals as goal

pub returns-in-Some : goal.returns-in-Some
returns-in-Some g c =
    let some : 0 < length c.args.entries.now.items = c.in-Some.ensures.variant.0 refl in
    let last = c.in-Some.ensures.lookup ∙ ap (λ n. slice_index_or c.args.entries.now.items (n - 1) c.in-Some.last) (sym c.len.ensures) in
    let low : g.N.Number.value c.in-Some.last.number < c.args.number = search rules in
    counted_all g.N.Number.value c.args.entries.now.items c.requires c.args.number c.len.result c.in-Some.last (omega arith)
    (omega arith) last low

pub returns-in_default : goal.returns-in_default
returns-in_default g c =
    let point = IsPartitionPoint-from_clause (λ entry. nat_lt (g.N.Number.value entry.number) c.args.number) c.args.entries.now.items c.partition_point.result
    c.partition_point.ensures.partitioned (parted g.N.Number.value c.args.entries.now.items c.requires c.args.number) (λ a r k called. search rules) in
    counted g.N.Number.value c.args.entries.now.items c.requires c.args.number c.partition_point.result c.partition_point.ensures.bound point
