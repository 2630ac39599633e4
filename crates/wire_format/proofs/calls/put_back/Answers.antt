use Rattle.json.proofs.Printed.Places.{Placed-then}
use Rattle.wire_format.proofs.calls.put_back.Goals as goal

pub returns : goal.returns
returns c =
    Placed-then c.put_number-end.ensures.put
    (Placed-then c.put-end.ensures (Placed-then c.put_number-end-2.ensures.put
    (Placed-then c.put-end-2.ensures (Placed-then c.put-end-3.ensures c.put.ensures))))
