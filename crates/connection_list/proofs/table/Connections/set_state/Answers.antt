use Rattle.std.proofs.Common.{◌∙◌, ap, is_some, rules, sym}
use Rattle.connection_list.proofs.SeenLemmas.{seen_anyhow}
use Rattle.connection_list.proofs.SteppedLemmas.{functor_stepped, method_stepped, none_stepped}
use Rattle.connection_list.proofs.table.Connections.set_state.Goals as goal

pub find-requires : goal.find-requires
find-requires c = (seen_anyhow c.self.invariant c.self.view_is c.requires).rows_place

pub returns-in_default : goal.returns-in_default
returns-in_default c =
    let its = none_stepped (seen_anyhow c.self.invariant c.self.view_is c.requires) c.args.number c.args.state c.in_default.ensures.found in
    record { stood = sym (ap is_some its.0); state = its.1; absent = search rules }

pub returns-then-not-calls_functor : goal.returns-then-not-calls_functor
returns-then-not-calls_functor c =
    let its = method_stepped (seen_anyhow c.self.invariant c.self.view_is c.requires) c.args.number c.args.state c.in-Some.key c.in-Some.ensures.found
    c.get-row.ensures.row c.in-Some.ensures.stands (sym c.calls_functor.ensures ∙ c.if-not-calls_functor.true) in
    record { stood = sym (ap is_some its.0); state = its.1; absent = search rules }

pub invariant_of-self : goal.invariant_of-self
invariant_of-self c = (functor_stepped (seen_anyhow c.self.invariant c.self.view_is c.requires) c.args.number c.args.state c.in-Some.key
    c.in-Some.ensures.found c.get-row.ensures.row c.in-Some.ensures.stands (sym c.calls_functor.ensures ∙ c.if-not-calls_functor.false)
    c.replace.ensures.new).kept

pub returns : goal.returns
returns c =
    let its = functor_stepped (seen_anyhow c.self.invariant c.self.view_is c.requires) c.args.number c.args.state c.in-Some.key
    c.in-Some.ensures.found c.get-row.ensures.row c.in-Some.ensures.stands (sym c.calls_functor.ensures ∙ c.if-not-calls_functor.false)
    c.replace.ensures.new in
    record { stood = sym (ap is_some its.state); state = its.view; absent = search rules }
