use Rattle.std.proofs.Common.{refl}
use Rattle.connection_list.specs.Routes.{no_routes}
use Rattle.connection_list.proofs.RoutesLemmas.{same_apart}
use Rattle.connection_list.proofs.routes.Routes.new.Goals as goal

pub returns : goal.returns
returns c = same_apart no_routes (record { last_number = 0; sent = c.new.result; received = c.new-2.result }) refl c.new.ensures c.new-2.ensures
