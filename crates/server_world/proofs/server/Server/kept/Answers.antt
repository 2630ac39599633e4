use Rattle.std.proofs.Common.{◌∙◌, sym, arith, []}
use Rattle.std.specs.Prelude.{bytes_eq}
use Rattle.std.proofs.lemmas.List.Quantifiers.{position-Some}
use Rattle.std.proofs.lemmas.Result.{IfOk-weaker}
use Rattle.server_world.specs.Server.{names, seen_as}
use Rattle.server_world.proofs.NotingLemmas.{kept_none, kept_there}
use Rattle.server_world.proofs.server.Server.kept.Goals as goal

pub kept-requires-clause-there : goal.kept-requires-clause-there
kept-requires-clause-there g c =
    let found = position-Some (bytes_eq c.args.session.now) (names (seen_as c.args.self.now)) c.in-Some.place [] (sym c.in-Some.ensures) in
    omega (arith, found.0, c.len.ensures.count)

pub kept-requires-clause-within : goal.kept-requires-clause-within
kept-requires-clause-within g c = rw c.len.ensures.count c.requires

pub returns-in-Some : goal.returns-in-Some
returns-in-Some g c =
    IfOk-weaker c.kept.result _ _ (λ places is. is ∙ kept_there
    (seen_as c.args.self.now) c.args.session.now c.in-Some.place c.args.notes.now c.len.ensures.named (sym c.in-Some.ensures) c.requires) c.kept.ensures

pub returns-in-None : goal.returns-in-None
returns-in-None g c = c.new.ensures.items ∙ kept_none (seen_as c.args.self.now) c.args.session.now c.args.notes.now (sym c.in-None.ensures) c.requires
