use Rattle.std.proofs.Common.{ap, sym, ◌∙◌}
use Rattle.session_engine.proofs.Common.{replies, State, state_at, state_with}
use Rattle.session_model.specs.declared.line.Answer.TheVariants as a
use Rattle.session_model.specs.State.{with_group}
use Rattle.session_model.proofs.ForCallers.{performs_begin, refusal_begin}
use Rattle.session_engine.proofs.CommandsLemmas.{made_fault, replied}
use Rattle.session_engine.proofs.bindings.begin.Goals as goal

pub returns-in_err-begin : goal.returns-in_err-begin
returns-in_err-begin c = made_fault c.in_err-begin.field-0.0 c.from_residual.ensures.1
    (refusal_begin _ _ _) c.in_err-begin.ensures.refusal c.in_err-begin.ensures.refused c.begin.ensures.keeps.only

pub returns : goal.returns
returns c =
    let state = state_at c.args.tables.now c.args.caller.now.place in
    replied c.requires (refusal_begin _ _ _ ∙ c.in_ok-begin.ensures.refusal)
    (performs_begin _ _ _
    ∙ ap (λ (after : State). replies (with_group state) (a.Number after.graph.depth)) (sym (state_with _ _ _ _ c.requires c.in_ok-begin.ensures.ok))
    ∙ ap (λ depth. replies (with_group state) (a.Number depth)) (sym c.in_ok-begin.ensures.depth))
    c.in_ok-begin.ensures.ok
