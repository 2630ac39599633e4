-- What must hold for a closure that becomes a functor, by what is known about its calls: when it may be called, and what
-- it may return.
use Rattle.std.specs.Prelude.{◌≡◌, ◌<◌, ◌^◌, ℕ, List, Result, Ok}
use Rattle.std.specs.Borrow.{Bor}
use Rattle.std.specs.Global.{Global, Vec}
use Rattle.std.specs.declared.alloc.AllocError.{AllocError}
use Rattle.signature_core.specs.declared.kind.Kind.{Kind}
use Rattle.variant_value.specs.declared.value.Value.{Value}
use Rattle.term_core.specs.declared.body.Body.{Body}
use Rattle.term_core.specs.Act.{Act}
use Rattle.term_core.specs.Term.{Term}
use Rattle.term_evaluation.specs.Stating.{after, with_state}
use Rattle.term_evaluation.specs.Unfolding.{unfolded_body}
use Rattle.stored_slots.specs.Functors.{AreArguments}

-- The closure may be called with every state, a 64-bit number, and with all arguments that fit the parameters.
abbrev pub MayBeCalled : (Global → ℕ → Bor (List Value) → Type 0) → List Kind → Type 0
MayBeCalled pre params = (alloc : Global) (state : ℕ) (args : Bor (List Value)) → state < 2 ^ 64 → AreArguments params args.now → pre alloc state args

-- Unless memory runs out, it returns the body with the state and the arguments put in.
abbrev pub GivesBody : (Global → ℕ → Bor (List Value) → Result (Vec Act × ℕ) AllocError → Type 0) → List Kind → Body → Type 0
GivesBody post params body = (alloc : Global) (state : ℕ) (args : Bor (List Value)) (answer : Vec Act × ℕ) → state < 2 ^ 64
    → AreArguments params args.now → post alloc state args (Ok answer) → answer.0.items ≡ unfolded_body args.now (with_state state body)

-- Unless memory runs out, it returns the next state.
abbrev pub GivesNext : (Global → ℕ → Bor (List Value) → Result (Vec Act × ℕ) AllocError → Type 0) → List Kind → Term → Type 0
GivesNext post params next = (alloc : Global) (state : ℕ) (args : Bor (List Value)) (answer : Vec Act × ℕ)
    → state < 2 ^ 64 → AreArguments params args.now → post alloc state args (Ok answer) → answer.1 ≡ after next state args.now
