use Rattle.std.proofs.Common.{◌≡◌, ◌-◌, ℕ, Bool, length}
use Rattle.object_tree.specs.Finding.{AnswersBy, found_below, found_within}
use Rattle.object_tree.specs.Table.{forest_at}
use Rattle.object_tree.proofs.forests.Forests.find_below.Given as goal

abbrev pub invariant-levels : goal.invariant-levels
invariant-levels g l = (passes : ℕ → Bool) → AnswersBy (goal.F-post g l.test) passes
    → found_within (length (forest_at l.self l.place).rows - l._step) (forest_at l.self l.place).rows passes l.level.items
    ≡ found_below (forest_at l.self l.place).rows l.object passes
