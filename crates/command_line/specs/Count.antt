-- The functor that counts its calls.
use Rattle.std.specs.Prelude.{ℕ, pos, List, [], ◌∷◌, Result, codes}
use Rattle.std.specs.Global.{Vec}
use Rattle.std.specs.declared.alloc.AllocError.{AllocError}
use Rattle.variant_value.specs.declared.value.Value.{Value}
use Rattle.variant_value.specs.declared.value.Value.TheVariants as v
use Rattle.signature_core.specs.declared.kind.Kind.TheVariants.{Int}
use Rattle.stored_slots.specs.declared.functor.Functor.{Functor}
use Rattle.term_core.specs.declared.action.SingleAction.TheVariants.{Set}
use Rattle.term_core.specs.declared.body.Body.{Body}
use Rattle.term_core.specs.declared.operator.Operator.TheVariants.{Sum}
use Rattle.term_core.specs.declared.target.Target.TheVariants.{Itself}
use Rattle.term_core.specs.Act.{Act, single_action}
use Rattle.term_core.specs.Term.{Term, const, state, binary}
use Rattle.command_line.specs.Answering.{AnswersBy}

-- A number plus one.
abbrev pub one_more : Term → Term
one_more number = binary Sum number (const (v.Int (pos 1)))

-- Sets the `y` of the context object to a number plus one.
abbrev pub counted : Term → List Act
counted number = single_action (Set Itself (codes "y") (one_more number)) ∷ []

-- The body of `count`, which sets `y` to its state plus one.
abbrev pub count_body : Body
count_body = record { params = 1; actions = counted state }

-- The functor.
abbrev pub count : Functor
count = record { name = codes "count"; params = Int ∷ []; body = count_body; next = one_more state }

-- A call of `count` over this state is answered, whatever its arguments are.
abbrev pub Counts : ℕ → List Value → Result (Vec Act × ℕ) AllocError → Type 0
Counts = AnswersBy count_body (one_more state)
