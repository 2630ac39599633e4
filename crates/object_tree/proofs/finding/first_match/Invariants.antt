use Rattle.std.proofs.Common.{◌≡◌, ℕ, Bool, find, drop}
use Rattle.object_tree.specs.Finding.{AnswersBy}
use Rattle.object_tree.proofs.finding.first_match.Given as goal

abbrev pub invariant-numbers : goal.invariant-numbers
invariant-numbers g l = (passes : ℕ → Bool) → AnswersBy (goal.F-post g l.test) passes → find passes (drop l.number-index l.level) ≡ find passes l.level
