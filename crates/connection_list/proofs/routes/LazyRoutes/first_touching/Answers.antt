use Rattle.std.proofs.Common.{◌≡◌, ◌≢◌, ◌∙◌, ap, false, subst, true}
use Rattle.std.specs.List.{All, Any}
use Rattle.std.specs.Prelude.{IfNone, IfSome}
use Rattle.shared_rows.specs.Links.{Linked}
use Rattle.connection_list.specs.declared.link.Link.{Link}
use Rattle.connection_list.specs.declared.routes.Routes.{Routes}
use Rattle.connection_list.specs.Routes.{links_at}
use Rattle.connection_list.specs.Ends.{touches}
use Rattle.connection_list.proofs.LazyLemmas.{all_of_none, seen_made}
use Rattle.connection_list.proofs.RoutesLemmas.{touching_none, touching_received, touching_sent}
use Rattle.connection_list.proofs.routes.LazyRoutes.first_touching.Goals as goal

pub returns-in-Some-first_of-clause-found : goal.returns-in-Some-first_of-clause-found
returns-in-Some-first_of-clause-found c = λ rows routed.
    let is = ap (λ (l : Linked Link). l.links) c.bucket.ensures
    ∙ ap (λ (r : Routes). links_at false c.args.object r) (seen_made c.self.view_is c.in-Some.is c.deref.ensures) in
    touching_sent c.args.object rows c.args.self.now routed c.in-Some-first_of.key
    (subst (Any (λ link. (link.object ≡ c.args.object) × (link.key ≡ c.in-Some-first_of.key))) is c.in-Some-first_of.ensures.found)

pub returns-in-None-clause-found : goal.returns-in-None-clause-found
returns-in-None-clause-found c = λ rows routed.
    let is = ap (λ (l : Linked Link). l.links) c.bucket-in-None.ensures
    ∙ ap (λ (r : Routes). links_at true c.args.object r) (seen_made c.self.view_is c.in-Some.is c.deref-in-None.ensures) in
    touching_received c.args.object rows c.args.self.now routed c.first_of-in-None.result
    (subst (λ links. IfSome c.first_of-in-None.result (λ key. Any (λ link. (link.object ≡ c.args.object) × (link.key ≡ key)) links)) is
    c.first_of-in-None.ensures.found)

pub returns-in-None-clause-none : goal.returns-in-None-clause-none
returns-in-None-clause-none c = λ rows routed.
    let is = ap (λ (l : Linked Link). l.links) c.bucket.ensures
    ∙ ap (λ (r : Routes). links_at false c.args.object r) (seen_made c.self.view_is c.in-Some.is c.deref.ensures) in
    let still = ap (λ (l : Linked Link). l.links) c.bucket-in-None.ensures
    ∙ ap (λ (r : Routes). links_at true c.args.object r) (seen_made c.self.view_is c.in-Some.is c.deref-in-None.ensures) in
    touching_none c.args.object rows c.args.self.now routed (subst (All (λ link. link.object ≢ c.args.object)) is c.in-None.ensures.none)
    c.first_of-in-None.result
    (subst (λ links. IfNone c.first_of-in-None.result (All (λ link. link.object ≢ c.args.object) links)) still c.first_of-in-None.ensures.none)

pub returns-in_default-clause-none : goal.returns-in_default-clause-none
returns-in_default-clause-none c = λ rows routed.
    all_of_none c.self.inside.made c.args.self.now c.self.view_is c.in_default.is rows routed (λ keyed. touches c.args.object keyed.row ≡ false)
