-- A branch with each of its expressions changed.
use Rattle.std.proofs.Common.{◌≡◌, List, [], ◌∷◌, map, refl, ap}
use Rattle.term_core.specs.Act.{Act, more, acts_of}
use Rattle.term_core.specs.Term.{Term}
use Rattle.term_evaluation.specs.Unfolding.{act_by, acts_by}

pub branch_changed : (change : Term → Term) (actions : List Act) → acts_of (map (act_by change) actions) ≡ acts_by change (acts_of actions)
branch_changed change [] = refl
branch_changed change (action ∷ rest) = ap (more (act_by change action)) (branch_changed change rest)
