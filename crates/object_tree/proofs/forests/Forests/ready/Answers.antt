use Rattle.object_tree.proofs.KeptLemmas.{ready_kept}
use Rattle.object_tree.proofs.forests.Forests.ready.Goals as goal

pub invariant_of-self-2 : goal.invariant_of-self-2
invariant_of-self-2 c = ready_kept c.self.invariant c.in_ok-ready.ensures.places c.ready-2.ensures.places
