use Rattle.std.proofs.Common.{◌-◌}
use Rattle.shared_rows.specs.Index.{IsWindow}
use Rattle.shared_rows.proofs.index.search.Given as goal

abbrev pub invariant-looks : goal.invariant-looks
invariant-looks g l = IsWindow g.N.Number.value l.entries.items l.number l.window

abbrev pub decreases-looks : goal.decreases-looks
decreases-looks g l = l.window.high - l.window.low
