use Rattle.std.proofs.Common.{◌≤◌, ◌-◌, length}
use Rattle.std.specs.Vec.{vec_capacity}
use Rattle.connection_list.specs.Buckets.{AreEmpty}
use Rattle.connection_list.specs.declared.buckets.TheConstants.{BUCKETS}
use Rattle.connection_list.proofs.buckets.empty_buckets.Given as goal

abbrev pub invariant-buckets : goal.invariant-buckets
invariant-buckets l = AreEmpty (length l.many.items) l.many.items × (length l.many.items ≤ BUCKETS) × (BUCKETS ≤ vec_capacity l.many)

abbrev pub decreases-buckets : goal.decreases-buckets
decreases-buckets l = BUCKETS - length l.many.items
