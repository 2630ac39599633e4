use Rattle.std.proofs.Common.{Ok, sym, ap}
use Rattle.session_model.specs.declared.line.Answer.TheVariants as a
use Rattle.session_queries.proofs.queries.status.Goals as goal

pub returns : goal.returns
returns c = record { returns = ap (λ status. Ok (a.Status status)) (sym c.status.ensures) }
