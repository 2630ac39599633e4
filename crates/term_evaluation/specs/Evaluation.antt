-- The value of an expression.
use Rattle.std.specs.Prelude.{ℕ, Bool, List, Option, None, Some, Result, Ok, Err, if◌then◌else◌, slice_get}
use Rattle.std.specs.Option.{ok_or, option_map_or}
use Rattle.plain_types.specs.declared.code.Code.{Code}
use Rattle.plain_types.specs.declared.code.Code.TheVariants.{BadValue}
use Rattle.variant_value.specs.declared.value.Value.{Value}
use Rattle.variant_value.specs.Values.{truth_in}
use Rattle.term_core.specs.declared.target.Target.{Target}
use Rattle.term_core.specs.Term.{Term, const, arg, state, prop, binary, choice}
use Rattle.term_evaluation.specs.Operations.{applied}
use Rattle.term_evaluation.specs.Outcomes.{Answer, ◌>>=◌, answer, refused}

-- The value of an argument, if it is given.
abbrev pub argument : List Value → ℕ → Result Value Code
argument args place = ok_or (slice_get args place) BadValue

-- One of two answers, by a test that must be a truth value.
abbrev pub chosen : {O : Type 0} → Option Bool → Answer O → Answer O → Answer O
chosen truth held failed = option_map_or (λ b. if b then held else failed) truth (Err (refused BadValue))

-- The value of an expression, with the values of its arguments and the answers of a reader. It is evaluated from left to
-- right up to the first fault, and of a choice only the branch that is taken. The state of a functor has no value until
-- a number is put in.
abbrev pub eval_by : {O : Type 0} → List Value → (Target → List ℕ → Answer O) → Term → Answer O
eval_by args read (const value) = Ok value
eval_by args read (arg place) = answer (argument args place)
eval_by args read state = Err (refused BadValue)
eval_by args read (prop target name) = read target name
eval_by args read (binary operator a b) = eval_by args read a >>= λ x. eval_by args read b >>= λ y. answer (applied operator x y)
eval_by args read (choice test a b) = eval_by args read test >>= λ t. chosen (truth_in t) (eval_by args read a) (eval_by args read b)

-- The value of an expression that is a constant or a given argument.
abbrev pub standing : List Value → Term → Option Value
standing args (const value) = Some value
standing args (arg place) = slice_get args place
standing args state = None
standing args (prop target name) = None
standing args (binary operator a b) = None
standing args (choice test a b) = None
