use Rattle.std.proofs.Common.{◌≡◌, ℕ, List, Ok, refl, ap, sym, ◌∙◌}
use Rattle.session_engine.proofs.Common.{Kind, Found, ◌>>=◌, Settings, State, settings_of, state_at, changes_same, behind_first, behind_second}
use Rattle.publish_board.specs.declared.join.Join.{Join}
use Rattle.publish_board.specs.Desk.{join_refusal}
use Rattle.session_model.specs.Methods.{method_named, methods_of}
use Rattle.session_model.specs.Sharing.{joining_refusal, joins_found}
use Rattle.session_model.proofs.ForCallers.{performs_join, refusal_join}
use Rattle.session_engine.proofs.CommandsLemmas.{found_fault, made_fault, on_refused, replied, starved, stopped}
use Rattle.session_engine.proofs.sharing.join.Goals as goal

-- what is asked for where these are the kinds that its types name
with_kinds : Settings → State → List ℕ → List ℕ → ℕ → List ℕ → Found (List Kind) → Found Join
with_kinds settings state from name target method found =
    found >>= λ kinds. method_named (methods_of settings state target) method >>=
    λ index. Ok (record { from = from; name = name; kinds = kinds; object = target; method = index })

-- and where this is its method
with_method : List ℕ → List ℕ → List Kind → ℕ → Found ℕ → Found Join
with_method from name kinds target found = found >>= λ index. Ok (record { from = from; name = name; kinds = kinds; object = target; method = index })

-- the join that is asked for, once its types, its method and its texts are there
all_found : (settings : Settings) (state : State) (from name : List ℕ) (target : ℕ) (method : List ℕ) (found : Found (List Kind)) (kinds : List Kind)
    (index : ℕ) (from_copy name_copy : List ℕ) → found ≡ Ok kinds → method_named (methods_of settings state target) method ≡ Ok index → from_copy ≡ from
    → name_copy ≡ name
    → with_kinds settings state from name target method found
    ≡ Ok (record { from = from_copy; name = name_copy; kinds = kinds; object = target; method = index })
unfolding with_kinds
all_found settings state from name target method found kinds index from_copy name_copy its_kinds its_method from_is name_is =
    λ i. its_kinds i >>= λ kinds. its_method i >>=
    λ index. Ok (record { from = sym from_is i; name = sym name_is i; kinds = kinds; object = target; method = index })

pub returns-in_err-check_object : goal.returns-in_err-check_object
returns-in_err-check_object c = stopped c.in_err-check_object.field-0.0 _ c.from_residual.ensures.1
    (refusal_join _ _ _ _ _ _ _ _ ∙ ap (joining_refusal (settings_of c.args.caller.now.setup.now) c.args.caller.now.name.now
    (state_at c.args.tables.now c.args.caller.now.place)) (behind_first _ _ _ c.in_err-check_object.ensures)) refl

pub returns-in_err-kinds : goal.returns-in_err-kinds
unfolding with_kinds
returns-in_err-kinds c =
    let settings = settings_of c.args.caller.now.setup.now in
    let state = state_at c.args.tables.now c.args.caller.now.place in
    let refused = joining_refusal settings c.args.caller.now.name.now state in
    found_fault (λ found. refused (with_kinds settings state c.args.from.now c.args.name.now c.args.object c.args.method.now found)) _
    c.in_err-kinds.field-0.0 c.from_residual-in_err-kinds.ensures.1
    (refusal_join _ _ _ _ _ _ _ _ ∙ ap refused (behind_second _ _ c.in_ok-check_object.ensures)) (λ code. refl) c.in_err-kinds.ensures

pub returns-in_err-method : goal.returns-in_err-method
unfolding with_kinds with_method
returns-in_err-method c =
    let settings = settings_of c.args.caller.now.setup.now in
    let state = state_at c.args.tables.now c.args.caller.now.place in
    let refused = joining_refusal settings c.args.caller.now.name.now state in
    found_fault (λ found. refused (with_method c.args.from.now c.args.name.now c.in_ok-kinds.kinds c.args.object found)) _ c.in_err-method.field-0.0
    c.from_residual-in_err-method.ensures.1
    (refusal_join _ _ _ _ _ _ _ _ ∙ ap refused
    (behind_second _ _ c.in_ok-check_object.ensures ∙ ap (with_kinds settings state c.args.from.now c.args.name.now c.args.object c.args.method.now)
    c.in_ok-kinds.ensures)) (λ code. refl) c.in_err-method.ensures

pub returns-in_err-copy : goal.returns-in_err-copy
returns-in_err-copy c = starved _ c.from_residual-in_err-copy.ensures.1 (changes_same _ _ _ refl)

pub returns-in_err-copy-2 : goal.returns-in_err-copy-2
returns-in_err-copy-2 c = starved _ c.from_residual-in_err-copy-2.ensures.1 (changes_same _ _ _ refl)

pub returns-in_err-join : goal.returns-in_err-join
unfolding with_kinds with_method
returns-in_err-join c =
    let settings = settings_of c.args.caller.now.setup.now in
    let state = state_at c.args.tables.now c.args.caller.now.place in
    let found = behind_second _ _ c.in_ok-check_object.ensures ∙ all_found settings state c.args.from.now c.args.name.now c.args.object c.args.method.now
    _ _ _ _ _ c.in_ok-kinds.ensures c.in_ok-method.ensures c.in_ok-copy.ensures c.in_ok-copy-2.ensures in
    made_fault c.in_err-join.field-0.0 c.from_residual-in_err-join.ensures.1
    (refusal_join _ _ _ _ _ _ _ _ ∙ ap (joining_refusal settings c.args.caller.now.name.now state) found
    ∙ ap (join_refusal c.args.caller.now.name.now state.desk (record
    { from = c.in_ok-copy.field-0; name = c.in_ok-copy-2.field-0; kinds = c.in_ok-kinds.kinds; object = c.args.object; method = c.in_ok-method.method }))
    (sym c.kinds_at-wanted.ensures))
    c.in_err-join.ensures.refusal (on_refused _ c.in_err-join.ensures.err) (changes_same _ _ _ c.in_err-join.ensures.err)

pub returns : goal.returns
unfolding with_kinds with_method
returns c =
    let settings = settings_of c.args.caller.now.setup.now in
    let state = state_at c.args.tables.now c.args.caller.now.place in
    let found = behind_second _ _ c.in_ok-check_object.ensures ∙ all_found settings state c.args.from.now c.args.name.now c.args.object c.args.method.now
    _ _ _ _ _ c.in_ok-kinds.ensures c.in_ok-method.ensures c.in_ok-copy.ensures c.in_ok-copy-2.ensures in
    replied c.requires (refusal_join _ _ _ _ _ _ _ _ ∙ ap (joining_refusal settings c.args.caller.now.name.now state) found
    ∙ ap (join_refusal c.args.caller.now.name.now state.desk (record
    { from = c.in_ok-copy.field-0; name = c.in_ok-copy-2.field-0; kinds = c.in_ok-kinds.kinds; object = c.args.object; method = c.in_ok-method.method }))
    (sym c.kinds_at-wanted.ensures) ∙ c.in_ok-join.ensures.refusal)
    (performs_join _ _ _ _ _ _ _ _ ∙ ap (joins_found state) found) c.in_ok-join.ensures.ok
