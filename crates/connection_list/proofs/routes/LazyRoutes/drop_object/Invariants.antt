use Rattle.std.proofs.Common.{length}
use Rattle.shared_rows.specs.Rows.{rows_at}
use Rattle.connection_list.specs.Ends.{touches}
use Rattle.connection_list.proofs.GoneLemmas.{AreGoing}
use Rattle.connection_list.proofs.routes.LazyRoutes.drop_object.Given as goal

abbrev pub invariant-keys : goal.invariant-keys
invariant-keys l = AreGoing (λ keyed. touches l.object keyed.row) l.place l.fn.rows l.rows l.fn.self l.self

abbrev pub decreases-keys : goal.decreases-keys
decreases-keys l = length (rows_at l.rows l.place)
