use Rattle.server_world.specs.Server.{seen_as, settings}
use Rattle.server_world.proofs.ForCallers.{knows_all}
use Rattle.wire_lines.proofs.slice.run_slice.Goals as goal

pub returns-clause-knows : goal.returns-clause-knows
returns-clause-knows g c = knows_all (settings (seen_as c.slice_input-ended.new.server)) (seen_as c.slice_input-ended.new.server).engine
