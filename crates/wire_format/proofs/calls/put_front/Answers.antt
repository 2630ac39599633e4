use Rattle.json.proofs.Printed.Places.{Placed-then}
use Rattle.wire_format.proofs.calls.put_front.Goals as goal

pub returns : goal.returns
returns c = Placed-then c.put-end.ensures (Placed-then c.put-end-2.ensures (Placed-then c.put-end-3.ensures (Placed-then c.put-end-4.ensures c.put.ensures)))
