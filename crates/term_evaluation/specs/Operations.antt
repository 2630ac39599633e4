-- The results of operators.
use Rattle.std.specs.Prelude.{◌+ℤ◌, ◌-ℤ◌, ◌++◌, ℕ, ℤ, Bool, List, Option, Result, Err, bytes_eq, int_lt, option_map, option_and_then}
use Rattle.std.specs.Bool.{beq}
use Rattle.std.specs.Option.{ok_or, option_or, option_map_or}
use Rattle.std.specs.Ordering.{int_eq}
use Rattle.plain_types.specs.declared.code.Code.{Code}
use Rattle.plain_types.specs.declared.code.Code.TheVariants.{BadValue}
use Rattle.variant_value.specs.declared.value.Value.{Value}
use Rattle.variant_value.specs.declared.value.Value.TheVariants as v
use Rattle.variant_value.specs.Values.{truth_in, number_in, text_in, inferred_number, text_of}
use Rattle.term_core.specs.declared.operator.Operator.{Operator}
use Rattle.term_core.specs.declared.operator.Operator.TheVariants.{Sum, Difference, Less, Equal, Concatenated}

-- The result for two values that are both of one sort.
abbrev pub of_two : {A B : Type 0} → (Value → Option A) → (A → A → B) → Value → Value → Option B
of_two sort f a b = option_and_then (λ x. option_map (f x) (sort b)) (sort a)

-- Whether two numbers, two truths or two texts are equal: numbers by their worth, whatever their kinds.
abbrev pub are_equal : Value → Value → Option Bool
are_equal a b = option_or (of_two number_in int_eq a b) (option_or (of_two truth_in beq a b) (of_two text_in bytes_eq a b))

-- A number as a value of the first kind that holds it.
abbrev pub number_value : Option ℤ → Result Value Code
number_value z = ok_or (option_and_then inferred_number z) BadValue

abbrev pub truth_value : Option Bool → Result Value Code
truth_value truth = ok_or (option_map v.Bool truth) BadValue

-- A text as a value, where it is not too long.
abbrev pub text_value : Option (List ℕ) → Result Value Code
text_value text = option_map_or text_of text (Err BadValue)

-- The result of an operator, by the values of its operands.
abbrev pub applied : Operator → Value → Value → Result Value Code
applied Sum a b = number_value (of_two number_in (λ x y. x +ℤ y) a b)
applied Difference a b = number_value (of_two number_in (λ x y. x -ℤ y) a b)
applied Less a b = truth_value (of_two number_in int_lt a b)
applied Equal a b = truth_value (are_equal a b)
applied Concatenated a b = text_value (of_two text_in (λ x y. x ++ y) a b)
