use Rattle.std.proofs.Common.{Ok, sym, ap}
use Rattle.session_model.specs.declared.line.Answer.TheVariants as a
use Rattle.session_queries.proofs.listing.classes.Goals as goal

pub returns : goal.returns
returns c = record { returns = ap (λ described. Ok (a.Names described)) (sym c.in_ok-class_names.ensures) }
