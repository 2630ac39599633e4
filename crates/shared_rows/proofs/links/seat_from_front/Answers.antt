use Rattle.std.proofs.Common.{◌≡◌, true, rules}
use Rattle.std.specs.Ordering.{is_lt}
use Rattle.shared_rows.proofs.LinkLemmas.{seat_before}
use Rattle.shared_rows.proofs.links.seat_from_front.Goals as goal

pub returns-in-Some : goal.returns-in-Some
returns-in-Some g c =
    let low : is_lt (g.K.Ord.cmp c.args.link c.in-Some.first) ≡ true = search rules in
    seat_before g.met.K.Ord.total _ c.requires _ c.in-Some.ensures.lookup low
