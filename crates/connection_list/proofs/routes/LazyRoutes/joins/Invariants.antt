use Rattle.shared_rows.specs.Rows.{rows_at}
use Rattle.connection_list.specs.Ends.{same_ends}
use Rattle.connection_list.specs.Routes.{links_at}
use Rattle.connection_list.proofs.WalkLemmas.{AreLeft}
use Rattle.connection_list.proofs.routes.LazyRoutes.joins.Given as goal

abbrev pub invariant-links : goal.invariant-links
invariant-links l = AreLeft l.group.received l.group.object (λ keyed. same_ends l.new keyed.row) (rows_at l.rows l.place)
    (links_at l.group.received l.group.object l.self) l.at l.group.end
