use Rattle.connection_list.proofs.BucketLemmas.{AreHeld}
use Rattle.connection_list.proofs.buckets.divided.Given as goal

abbrev pub invariant-links : goal.invariant-links
invariant-links l = AreHeld l.few.links l.at l.many.items
