use Rattle.std.proofs.Common.{subst}
use Rattle.connection_list.specs.Routes.{Loses}
use Rattle.connection_list.proofs.routes.Routes.unlink.Goals as goal

pub returns-clause-sent : goal.returns-clause-sent
returns-clause-sent c = subst (λ link. Loses link c.args.self.now.sent c.remove.new.self) c.sent_link.ensures c.remove.ensures

pub returns-clause-received : goal.returns-clause-received
returns-clause-received c = subst (λ link. Loses link c.args.self.now.received c.remove-2.new.self) c.received_link.ensures c.remove-2.ensures
