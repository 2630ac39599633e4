use Rattle.std.proofs.Common.{◌-◌}
use Rattle.shared_rows.specs.Rows.{rows_at}
use Rattle.connection_list.specs.Ends.{matches}
use Rattle.connection_list.specs.Routes.{links_at}
use Rattle.connection_list.proofs.GoneLemmas.{AreGoing}
use Rattle.connection_list.proofs.WalkLemmas.{AreLeft}
use Rattle.connection_list.proofs.routes.LazyRoutes.disconnect_matching.Given as goal

abbrev pub invariant-links : goal.invariant-links
invariant-links l = AreGoing (λ keyed. matches l.pattern keyed.row) l.place l.fn.rows l.rows l.fn.self l.self
    × AreLeft l.group.received l.group.object (λ keyed. matches l.pattern keyed.row) (rows_at l.rows l.place)
    (links_at l.group.received l.group.object l.self) l.at l.end

abbrev pub decreases-links : goal.decreases-links
decreases-links l = l.end - l.at
