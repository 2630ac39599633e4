use Rattle.std.proofs.Common.{◌∙◌, ap, map, sym}
use Rattle.std.proofs.lemmas.List.{map_push}
use Rattle.stored_slots.proofs.TableLemmas.{refused_by_none}
use Rattle.stored_slots.specs.Functors.{add_refusal}
use Rattle.stored_slots.specs.Table.{functors_of}
use Rattle.stored_slots.proofs.table.Functors.add.Goals as goal

pub returns-clause-ok : goal.returns-clause-ok
returns-clause-ok g c =
    ap (λ items. map (λ stored. stored.functor) items) c.in_ok-push.ensures.items
    ∙ map_push (λ stored. stored.functor) c.args.self.now.stored.items _

pub returns-in_err-push-clause-refusal : goal.returns-in_err-push-clause-refusal
returns-in_err-push-clause-refusal g c =
    refused_by_none _ c.from_residual.result c.from_residual.ensures.1
    (ap (λ name. add_refusal (functors_of c.args.self.now) name) (sym c.as_str.ensures) ∙ sym c.in_default.ensures.refusal)
