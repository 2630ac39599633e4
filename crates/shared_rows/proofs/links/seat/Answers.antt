use Rattle.std.proofs.Common.{◌≡◌, true, refl, rules}
use Rattle.std.specs.Ordering.{is_lt}
use Rattle.shared_rows.proofs.LinkLemmas.{seat_behind}
use Rattle.shared_rows.proofs.links.seat.Goals as goal

pub returns-in-Some : goal.returns-in-Some
returns-in-Some g c =
    let low : is_lt (g.K.Ord.cmp c.in-Some.last c.args.link) ≡ true = search rules in
    rw c.len.ensures (seat_behind g.met.K.Ord.total _ c.requires _ (c.in-Some.ensures.variant.0 refl) c.in-Some.ensures.lookup low)
