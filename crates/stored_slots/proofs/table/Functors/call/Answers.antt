use Rattle.std.proofs.Common.{◌∙◌, Some, ap, sym}
use Rattle.std.specs.Option.{option_map}
use Rattle.term_evaluation.specs.Stating.{after, with_state}
use Rattle.term_evaluation.specs.Unfolding.{unfolded_body}
use Rattle.stored_slots.proofs.TableLemmas.{if_ok, part_at}
use Rattle.stored_slots.specs.Functors.{AreArguments}
use Rattle.stored_slots.proofs.table.Functors.call.Goals as goal

pub answer-requires : goal.answer-requires
answer-requires g c = (part_at (λ stored. stored.functor) (λ functor. AreArguments functor.params c.args.args.now) c.args.self.now.stored.items c.args.index
    c.index-stored.result.now c.requires c.index-stored.ensures).0

pub returns-clause-actions : goal.returns-clause-actions
returns-clause-actions g c =
    let it = part_at (λ stored. stored.functor) (λ functor. AreArguments functor.params c.args.args.now) c.args.self.now.stored.items c.args.index
    c.index-stored.result.now c.requires c.index-stored.ensures in
    let does = ap (λ found. option_map (λ functor. unfolded_body c.args.args.now (with_state c.args.state functor.body)) found) it.1 in
    if_ok _ _ c.answer.result (λ answer given. ap (λ these. Some these) given ∙ sym does) c.answer.ensures.actions

pub returns-clause-next : goal.returns-clause-next
returns-clause-next g c =
    let it = part_at (λ stored. stored.functor) (λ functor. AreArguments functor.params c.args.args.now) c.args.self.now.stored.items c.args.index
    c.index-stored.result.now c.requires c.index-stored.ensures in
    let follows = ap (λ found. option_map (λ functor. after functor.next c.args.state c.args.args.now) found) it.1 in
    if_ok _ _ c.answer.result (λ answer given. ap (λ state. Some state) given ∙ sym follows) c.answer.ensures.next
