use Rattle.std.proofs.Common.{◌≡◌, ◌∙◌, false, ap, sym, arith}
use Rattle.std.specs.Option.{option_map}
use Rattle.shared_rows.specs.Links.{Linked}
use Rattle.connection_list.specs.declared.link.Link.{Link}
use Rattle.connection_list.specs.Rows.{is_next}
use Rattle.connection_list.proofs.LazyLemmas.{all_of_none, seen_made}
use Rattle.connection_list.proofs.RoutesLemmas.{find_none, next_key, no_next, none_above, none_next}
use Rattle.connection_list.proofs.routes.LazyRoutes.search_sent.Goals as goal
use Rattle.connection_list.proofs.routes.LazyRoutes.search_sent.Goals.{then-link-sender-via-then-link-sender}
use Rattle.connection_list.proofs.routes.LazyRoutes.search_sent.Goals.{then-link-sender-via-else-link-sender+then-link-signal}
use Rattle.connection_list.proofs.routes.LazyRoutes.search_sent.Goals.{then-link-sender-via-else-link-sender+else-link-signal+then-link-up_to}

pub returns-in_default : goal.returns-in_default
returns-in_default c = λ rows kept.
    sym (ap (option_map (λ keyed. keyed.key)) (find_none (λ keyed. is_next c.args.sender c.args.signal c.args.after c.args.up_to keyed.row) rows
    (all_of_none c.self.inside.made c.args.self.now c.self.view_is c.in_default.is rows kept.routed
    (λ keyed. is_next c.args.sender c.args.signal c.args.after c.args.up_to keyed.row ≡ false))))

pub returns-then-after-eq4294967295 : goal.returns-then-after-eq4294967295
returns-then-after-eq4294967295 c = λ rows kept. none_above c.args.sender c.args.signal c.args.after c.args.up_to rows c.args.self.now kept
    c.if-after-eq4294967295.true

pub returns-in_err-link : goal.returns-in_err-link
returns-in_err-link c = λ rows kept.
    let is = seen_made c.self.view_is c.in-Some.is c.deref.ensures in
    c.from_residual.ensures ∙ none_next c.args.sender c.args.signal c.args.after c.args.up_to rows c.deref.result.now (rw is kept)
    (ap (λ (l : Linked Link). l.links) c.bucket.ensures) (sym c.in_err-link.ensures.first)

pub returns-then-link-sender : goal.returns-then-link-sender
returns-then-link-sender c = λ rows kept.
    let is = seen_made c.self.view_is c.in-Some.is c.deref.ensures in
    no_next c.args.sender c.args.signal c.args.after c.args.up_to rows c.deref.result.now (rw is kept)
    (ap (λ (l : Linked Link). l.links) c.bucket.ensures) c.in_ok-link.ensures.sound c.in_ok-link.link (sym c.in_ok-link.ensures.first)
    (λ object signal within. elim c.then-link-sender.branch [
      | then-link-sender-via-then-link-sender w ↦ w.if-link-sender.true object
      | then-link-sender-via-else-link-sender+then-link-signal w ↦ w.if-link-signal.true signal
      | then-link-sender-via-else-link-sender+else-link-signal+then-link-up_to w ↦ omega arith
    ])

pub returns : goal.returns
returns c = λ rows kept.
    let is = seen_made c.self.view_is c.in-Some.is c.deref.ensures in
    next_key c.args.sender c.args.signal c.args.after c.args.up_to rows c.deref.result.now (rw is kept)
    (ap (λ (l : Linked Link). l.links) c.bucket.ensures) c.in_ok-link.ensures.sound c.in_ok-link.link (sym c.in_ok-link.ensures.first)
    c.if-link-sender.false c.if-link-signal.false c.if-link-up_to.false
