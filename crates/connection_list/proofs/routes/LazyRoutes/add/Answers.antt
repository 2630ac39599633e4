use Rattle.connection_list.proofs.LazyLemmas.{seen_made}
use Rattle.connection_list.proofs.RoutesLemmas.{routed_push}
use Rattle.connection_list.proofs.routes.LazyRoutes.add.Goals as goal

pub returns-clause-routed : goal.returns-clause-routed
returns-clause-routed c = λ rows routed.
    routed_push rows c.deref_mut.result.now c.link.new.self (record { key = c.args.key; row = c.args.row.now })
    (rw (seen_made c.self.view_is c.in-Some.is c.deref_mut.ensures.value) routed) c.link.ensures.sent c.link.ensures.received
