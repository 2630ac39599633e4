use Rattle.std.proofs.Common.{sym}
use Rattle.connection_list.proofs.LinkLemmas.{none_of, one_of, others_of}
use Rattle.connection_list.proofs.routes.first_of.Goals as goal

pub returns-in_err-link-clause-none : goal.returns-in_err-link-clause-none
returns-in_err-link-clause-none c = rw c.from_residual.ensures
    (none_of c.args.links.now.links c.in_err-link.ensures.sound c.args.object (sym c.in_err-link.ensures.first))

pub returns-then-link-object-clause-none : goal.returns-then-link-object-clause-none
returns-then-link-object-clause-none c = others_of c.args.links.now.links c.in_ok-link.ensures.sound c.args.object c.in_ok-link.link
    (sym c.in_ok-link.ensures.first) c.if-link-object.true

pub returns-clause-found : goal.returns-clause-found
returns-clause-found c = one_of c.args.links.now.links c.in_ok-link.ensures.sound c.args.object c.in_ok-link.link
    (sym c.in_ok-link.ensures.first) c.if-link-object.false
