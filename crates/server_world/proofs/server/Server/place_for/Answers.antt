use Rattle.std.proofs.Common.{sym}
use Rattle.server_world.specs.Server.{seen_as}
use Rattle.server_world.proofs.NotingLemmas.{place_new, place_there}
use Rattle.server_world.proofs.server.Server.place_for.Goals as goal

pub returns-in-Some-clause-there : goal.returns-in-Some-clause-there
returns-in-Some-clause-there g c = (place_there (seen_as c.args.self.now) c.args.name.now c.in-Some.place (sym c.in-Some.ensures)).0

pub returns-in-Some-clause-is : goal.returns-in-Some-clause-is
returns-in-Some-clause-is g c = (place_there (seen_as c.args.self.now) c.args.name.now c.in-Some.place (sym c.in-Some.ensures)).1

pub returns-in-None-clause-there : goal.returns-in-None-clause-there
returns-in-None-clause-there g c = rw c.len.ensures.count ((place_new (seen_as c.args.self.now) c.args.name.now (sym c.in-None.ensures)).0)

pub returns-in-None-clause-is : goal.returns-in-None-clause-is
returns-in-None-clause-is g c = rw c.len.ensures.count ((place_new (seen_as c.args.self.now) c.args.name.now (sym c.in-None.ensures)).1)
