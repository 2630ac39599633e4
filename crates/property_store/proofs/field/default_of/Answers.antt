use Rattle.std.proofs.Common.{arith}
use Rattle.std.proofs.lemmas.Grind.{common_steps}
use Rattle.property_store.proofs.field.default_of.Goals as goal

pub returns-in-Uint : goal.returns-in-Uint
returns-in-Uint c = grind (arith, common_steps)
