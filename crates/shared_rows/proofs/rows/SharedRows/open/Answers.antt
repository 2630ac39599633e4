use Rattle.shared_rows.proofs.KeptLemmas.{kept_open}
use Rattle.shared_rows.proofs.rows.SharedRows.open.Goals as goal

pub invariant_of-self : goal.invariant_of-self
invariant_of-self g c = rw c.open.ensures.opened (kept_open c.self.invariant c.new.result c.new.ensures)
