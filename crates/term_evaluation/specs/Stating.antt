-- The state of a functor: how it is put into the body, and the next state.
use Rattle.std.specs.Prelude.{ℕ, pos, ◌-◌, ◌^◌, List, [], map, Option, None, Some, Err, Ok, if◌then◌else◌, option_and_then, unsigned_abs, unwrap_or}
use Rattle.std.specs.Option.{option_map_or}
use Rattle.plain_types.specs.declared.code.Code.TheVariants.{NoSuchObject}
use Rattle.variant_value.specs.declared.value.Value.{Value}
use Rattle.variant_value.specs.declared.value.Value.TheVariants as v
use Rattle.variant_value.specs.Values.{inferred_number, is_within, number_in}
use Rattle.term_core.specs.declared.body.Body.{Body}
use Rattle.term_core.specs.declared.target.Target.{Target}
use Rattle.term_core.specs.Term.{Term, const, arg, state, prop, binary, choice}
use Rattle.term_evaluation.specs.Evaluation.{eval_by}
use Rattle.term_evaluation.specs.Outcomes.{Answer, refused}
use Rattle.term_evaluation.specs.Unfolding.{act_by, unfolded_term}

-- A state as a value: a number of the first kind that can hold it.
abbrev pub state_value : ℕ → Value
state_value n = unwrap_or (inferred_number (pos n)) (v.Ulonglong n)

-- An expression in which a number, if one is given, replaces the state.
abbrev pub stated_term : Option ℕ → Term → Term
stated_term given (const value) = const value
stated_term given (arg place) = arg place
stated_term given state = option_map_or (λ n. const (state_value n)) given state
stated_term given (prop target name) = prop target name
stated_term given (binary operator a b) = binary operator (stated_term given a) (stated_term given b)
stated_term given (choice test a b) = choice (stated_term given test) (stated_term given a) (stated_term given b)

-- A body in which this number replaces the state.
abbrev pub with_state : ℕ → Body → Body
with_state n body = record { params = body.params; actions = map (act_by (stated_term (Some n))) body.actions }

-- An expression in which arguments are put in, and a number, if one is given, replaces the state.
abbrev pub put_in : Option ℕ → List Value → Term → Term
put_in given args term = unfolded_term args (stated_term given term)

-- A reader without properties.
abbrev pub nothing_read : Target → List ℕ → Answer (Unit {0})
nothing_read target name = Err (refused NoSuchObject)

-- A value as a state: a whole number from 0 to 2^64 - 1.
abbrev pub state_in : Value → Option ℕ
state_in value = option_and_then (λ z. if is_within (pos 0) (pos (2 ^ 64 - 1)) z then Some (unsigned_abs z) else None) (number_in value)

-- The state with which an evaluation ends, or otherwise the previous one.
abbrev pub state_or : ℕ → Answer (Unit {0}) → ℕ
state_or n (Ok value) = unwrap_or (state_in value) n
state_or n (Err cause) = n

-- The state after a call with this state and these arguments: the value of the expression for the next state if that is
-- a state, and otherwise the same state.
abbrev pub after : Term → ℕ → List Value → ℕ
after next n args = state_or n (eval_by [] nothing_read (put_in (Some n) args next))
