use Rattle.std.proofs.Common.{ap}
use Rattle.shared_rows.specs.Links.{Linked}
use Rattle.connection_list.specs.declared.link.Link.{Link}
use Rattle.connection_list.proofs.LazyLemmas.{seen_made}
use Rattle.connection_list.proofs.RoutesLemmas.{next_key}
use Rattle.connection_list.proofs.routes.LazyRoutes.next_near.Goals as goal

pub returns : goal.returns
returns c = λ rows kept.
    let is = seen_made c.self.view_is c.in-Some.is c.deref.ensures in
    next_key c.args.sender c.args.signal c.args.after c.args.up_to rows c.deref.result.now (rw is kept)
    (ap (λ (l : Linked Link). l.links) c.bucket.ensures) c.in_ok-link.ensures.sound c.in_ok-link.link c.in_ok-link.ensures.first
    c.in_ok-link.ensures.ends.0 c.in_ok-link.ensures.ends.1 c.if-link-up_to.false
