use Rattle.std.proofs.Common.{arith}
use Rattle.std.proofs.lemmas.Grind.{common_steps}
use Rattle.server_world.specs.Server.{was_refused}
use Rattle.server_world.proofs.bare.BareServer.new.Goals as goal

pub returns-clause-settings : goal.returns-clause-settings
unfolding was_refused
returns-clause-settings g c = grind (arith, common_steps)
