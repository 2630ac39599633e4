use Rattle.shared_rows.proofs.index.search.Goals as goal
use Rattle.shared_rows.proofs.index.search.Goals.{else-is_guess, then-is_guess}

pub look-requires-clause-within : goal.look-requires-clause-within
look-requires-clause-within g c = elim c.if-is_guess.branch [
  | then-is_guess w ↦ rw w.at-is (c.looks.invariant.guess c.looks-test.true)
  | else-is_guess w ↦ rw w.at-is w.middle-at.ensures
]
