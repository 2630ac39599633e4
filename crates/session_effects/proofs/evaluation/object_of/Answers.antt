use Rattle.std.proofs.Common.{ap, ◌∙◌}
use Rattle.std.specs.Option.{unwrap_or}
use Rattle.session_effects.proofs.evaluation.object_of.Goals as goal

pub returns-in_ok-found-in-Child : goal.returns-in_ok-found-in-Child
returns-in_ok-found-in-Child c = rw (c.in-Child.is, ← c.as_str.ensures) (c.unwrap_or.ensures ∙ ap (λ found. unwrap_or found 0) c.in_ok-found-in-Child.ensures)
