use Rattle.std.proofs.Common.{refl}
use Rattle.connection_list.proofs.BucketLemmas.{same_itself}
use Rattle.connection_list.proofs.RoutesLemmas.{same_apart}
use Rattle.connection_list.proofs.routes.Routes.reserve.Goals as goal

pub returns-in_err-reserve-clause-same : goal.returns-in_err-reserve-clause-same
returns-in_err-reserve-clause-same c =
    same_apart c.args.self.now
    (record { last_number = c.args.self.now.last_number; sent = c.reserve.new.self; received = c.args.self.now.received }) refl c.reserve.ensures.same
    (same_itself c.args.self.now.received)

pub returns-clause-same : goal.returns-clause-same
returns-clause-same c =
    same_apart c.args.self.now
    (record { last_number = c.args.self.now.last_number; sent = c.reserve.new.self; received = c.reserve-2.new.self }) refl c.reserve.ensures.same
    c.reserve-2.ensures.same
