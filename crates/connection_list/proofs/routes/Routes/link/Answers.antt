use Rattle.std.proofs.Common.{subst}
use Rattle.connection_list.specs.Routes.{Gains}
use Rattle.connection_list.proofs.routes.Routes.link.Goals as goal

pub returns-clause-sent : goal.returns-clause-sent
returns-clause-sent c = subst (λ link. Gains link c.args.self.now.sent c.insert_reserved.new.self) c.sent_link.ensures c.insert_reserved.ensures

pub returns-clause-received : goal.returns-clause-received
returns-clause-received c = subst (λ link. Gains link c.args.self.now.received c.insert_reserved-2.new.self) c.received_link.ensures c.insert_reserved-2.ensures
