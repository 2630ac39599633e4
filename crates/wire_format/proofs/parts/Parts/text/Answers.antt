use Rattle.json.proofs.Printed.Places.{Placed-then}
use Rattle.wire_format.proofs.parts.Parts.text.Goals as goal

pub returns : goal.returns
returns c =
    let placed = Placed-then c.put-end.ensures (Placed-then c.put-end-2.ensures (Placed-then c.put-end-3.ensures
    (Placed-then c.put-end-4.ensures c.put-end-5.ensures))) in
    placed.bytes
