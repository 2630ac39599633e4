-- How the closure of a functor answers a call.
use Rattle.std.specs.Prelude.{◌≡◌, ℕ, List, Result, IfOk}
use Rattle.std.specs.Global.{Vec}
use Rattle.std.specs.declared.alloc.AllocError.{AllocError}
use Rattle.variant_value.specs.declared.value.Value.{Value}
use Rattle.term_core.specs.declared.body.Body.{Body}
use Rattle.term_core.specs.Act.{Act}
use Rattle.term_core.specs.Term.{Term}
use Rattle.term_evaluation.specs.Stating.{after, with_state}
use Rattle.term_evaluation.specs.Unfolding.{unfolded_body}

-- Unless memory runs out, the call returns the body with this state and these arguments put in, and the next state.
abbrev pub AnswersBy : Body → Term → ℕ → List Value → Result (Vec Act × ℕ) AllocError → Type 0
AnswersBy body next state args result =
    IfOk result (λ answer. (answer.0.items ≡ unfolded_body args (with_state state body)) × (answer.1 ≡ after next state args))
