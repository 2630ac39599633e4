use Rattle.std.proofs.Common.{◌∙◌, ap, map}
use Rattle.std.specs.Prelude.{bytes_eq, position}
use Rattle.stored_slots.proofs.TableLemmas.{position-map}
use Rattle.stored_slots.proofs.table.Functors.find.Goals as goal

pub returns-in_err-index : goal.returns-in_err-index
returns-in_err-index g c =
    rw (c.from_residual.ensures)
    (c.in_err-index.ensures.number
    ∙ position-map (λ stored. stored.functor) (λ functor. bytes_eq c.args.name.now functor.name) c.deref.result.now
    ∙ ap (λ all. position (λ functor. bytes_eq c.args.name.now functor.name) (map (λ stored. stored.functor) all)) c.deref.ensures.value)

pub returns : goal.returns
returns g c =
    c.in_ok-index.ensures.number
    ∙ position-map (λ stored. stored.functor) (λ functor. bytes_eq c.args.name.now functor.name) c.deref.result.now
    ∙ ap (λ all. position (λ functor. bytes_eq c.args.name.now functor.name) (map (λ stored. stored.functor) all)) c.deref.ensures.value
