-- The functor that keeps a number between two bounds.
use Rattle.std.specs.Prelude.{ℕ, ℤ, List, [], ◌∷◌, Result, codes}
use Rattle.std.specs.Global.{Vec}
use Rattle.std.specs.declared.alloc.AllocError.{AllocError}
use Rattle.variant_value.specs.declared.value.Value.{Value}
use Rattle.variant_value.specs.declared.value.Value.TheVariants as v
use Rattle.signature_core.specs.declared.kind.Kind.TheVariants.{Int}
use Rattle.stored_slots.specs.declared.functor.Functor.{Functor}
use Rattle.stored_slots.specs.Functors.{AreArguments}
use Rattle.term_core.specs.declared.action.SingleAction.TheVariants.{Set}
use Rattle.term_core.specs.declared.body.Body.{Body}
use Rattle.term_core.specs.declared.operator.Operator.TheVariants.{Less}
use Rattle.term_core.specs.declared.target.Target.TheVariants.{Itself}
use Rattle.term_core.specs.Act.{Act, Acts, single_action, when, nothing, more}
use Rattle.term_core.specs.Term.{Term, const, arg, state, binary}
use Rattle.command_line.specs.Answering.{AnswersBy}

-- Sets the `x` of the context object to a value.
abbrev pub sets_x : Term → Acts
sets_x value = more (single_action (Set Itself (codes "x") value)) nothing

-- Sets `x` to a number, but at most to this maximum.
abbrev pub at_most : ℤ → Term → Act
at_most most number = when (binary Less (const (v.Int most)) number) (sets_x (const (v.Int most))) (sets_x number)

-- Sets `x` to a number, but within these bounds.
abbrev pub clamped : ℤ → ℤ → Term → List Act
clamped least most number = when (binary Less number (const (v.Int least))) (sets_x (const (v.Int least))) (more (at_most most number) nothing) ∷ []

-- The body of `clamp`, which sets `x` to its first argument within the bounds.
abbrev pub clamp_body : ℤ → ℤ → Body
clamp_body least most = record { params = 1; actions = clamped least most (arg 0) }

-- The functor. Its state never changes.
abbrev pub clamp : ℤ → ℤ → Functor
clamp least most = record { name = codes "clamp"; params = Int ∷ []; body = clamp_body least most; next = state }

-- The arguments that `clamp` takes: one number.
abbrev pub IsNumber : List Value → Type 0
IsNumber args = AreArguments (Int ∷ []) args

-- A call of `clamp` over this state, with these arguments, is answered.
abbrev pub Clamps : ℤ → ℤ → ℕ → List Value → Result (Vec Act × ℕ) AllocError → Type 0
Clamps least most = AnswersBy (clamp_body least most) state
