use Rattle.std.proofs.Common.{arith}
use Rattle.std.proofs.lemmas.Grind.{common_steps}
use Rattle.signature_core.proofs.kind.Kind.from_name.Goals as goal

pub returns-clause-value : goal.returns-clause-value
returns-clause-value c = grind (arith, common_steps)

pub returns-clause-named : goal.returns-clause-named
returns-clause-named c = grind (arith, common_steps)
