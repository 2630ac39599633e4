use Rattle.std.proofs.Common.{Ok, refl, ap, sym, ◌∙◌}
use Rattle.session_engine.proofs.Common.{◌>>=◌, state_at, changes_same, behind_first, behind_second}
use Rattle.session_model.specs.Sharing.{publication_refusal, publishes_found}
use Rattle.session_model.proofs.ForCallers.{performs_publish, refusal_publish}
use Rattle.session_engine.proofs.CommandsLemmas.{found_fault, made_fault, on_refused, replied, starved, stopped}
use Rattle.session_engine.proofs.sharing.publish.Goals as goal

pub returns-in_err-check_object : goal.returns-in_err-check_object
returns-in_err-check_object c = stopped c.in_err-check_object.field-0.0 _ c.from_residual.ensures.1
    (refusal_publish _ _ _ _ _ _ ∙ ap (publication_refusal (state_at c.args.tables.now c.args.caller.now.place))
    (behind_first _ _ _ c.in_err-check_object.ensures)) refl

pub returns-in_err-signal : goal.returns-in_err-signal
returns-in_err-signal c =
    let state = state_at c.args.tables.now c.args.caller.now.place in
    found_fault (λ found. publication_refusal state (found >>= λ index. Ok (record { name = c.args.name.now; object = c.args.object; signal = index })))
    _ c.in_err-signal.field-0.0 c.from_residual-in_err-signal.ensures.1
    (refusal_publish _ _ _ _ _ _ ∙ ap (publication_refusal state) (behind_second _ _ c.in_ok-check_object.ensures)) (λ code. refl) c.in_err-signal.ensures

pub returns-in_err-name : goal.returns-in_err-name
returns-in_err-name c = starved _ c.from_residual-in_err-name.ensures.1 (changes_same _ _ _ refl)

pub returns-in_err-publish : goal.returns-in_err-publish
returns-in_err-publish c =
    let state = state_at c.args.tables.now c.args.caller.now.place in
    made_fault c.in_err-publish.field-0.0 c.from_residual-in_err-publish.ensures.1
    (refusal_publish _ _ _ _ _ _ ∙ ap (publication_refusal state)
    (behind_second _ _ c.in_ok-check_object.ensures
    ∙ (λ i. c.in_ok-signal.ensures i >>= λ index. Ok (record { name = sym c.in_ok-name.ensures i; object = c.args.object; signal = index }))))
    c.in_err-publish.ensures.refusal (on_refused _ c.in_err-publish.ensures.err) (changes_same _ _ _ c.in_err-publish.ensures.err)

pub returns : goal.returns
returns c =
    let state = state_at c.args.tables.now c.args.caller.now.place in
    let found = behind_second _ _ c.in_ok-check_object.ensures
    ∙ (λ i. c.in_ok-signal.ensures i >>= λ index. Ok (record { name = sym c.in_ok-name.ensures i; object = c.args.object; signal = index })) in
    replied c.requires (refusal_publish _ _ _ _ _ _ ∙ ap (publication_refusal state) found ∙ c.in_ok-publish.ensures.refusal)
    (performs_publish _ _ _ _ _ _ ∙ ap (publishes_found state) found) c.in_ok-publish.ensures.ok
