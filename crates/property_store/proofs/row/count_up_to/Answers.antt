use Rattle.std.proofs.Common.{arith}
use Rattle.shared_rows.specs.Rows.{rows_at}
use Rattle.property_store.proofs.SearchLemmas.{search_behind}
use Rattle.property_store.proofs.row.count_up_to.Goals as goal

pub loop-low-preserved-then-row-last : goal.loop-low-preserved-then-row-last
loop-low-preserved-then-row-last c =
    search_behind (rows_at c.args.rows.now c.args.place) c.len-high.ensures.sound c.args.last c.loop-low.low c.loop-low.high _ c.at.result.0 c.at.result.1.now
    c.loop-low.invariant (omega arith) (omega arith) c.at.ensures c.if-row-last.true
