-- States as values, and the states that follow them.
use Rattle.std.proofs.Common.{◌≡◌, ◌∙◌, ℕ, ◌+◌, ◌<◌, ◌≤◌, ◌&&◌, min, Bool, true, false, pos, ◌+ℤ◌, List, Some, None, nat_le, refl, sym, ap, arith, ⊎_elim}
use Rattle.std.specs.Prelude.{if◌then◌else◌, option_and_then, unsigned_abs, unwrap_or}
use Rattle.std.specs.Option.{ok_or, option_or}
use Rattle.std.proofs.lemmas.Bool.{cases_lt, le-leb}
use Rattle.std.proofs.lemmas.Bool.Decides.{nat_tests}
use Rattle.std.proofs.lemmas.Int.{ints}
use Rattle.plain_types.specs.declared.code.Code.TheVariants.{BadValue}
use Rattle.variant_value.specs.declared.value.Value.{Value}
use Rattle.variant_value.specs.declared.value.Value.TheVariants as v
use Rattle.variant_value.specs.Values.{inferred_number, is_within, number_in}
use Rattle.term_core.specs.Term.{state}
use Rattle.term_evaluation.specs.Operations.{number_value, of_two}
use Rattle.term_evaluation.specs.Outcomes.{answer}
use Rattle.term_evaluation.specs.Stating.{after, state_in, state_or, state_value}
use Rattle.command_line.specs.Count.{one_more}

-- a state as a value is that number
state_number : (n : ℕ) → number_in (state_value n) ≡ Some (pos n)
state_number n = by (nat_le n 2147483647) (nat_le n 9223372036854775807) (nat_le 0 n && nat_le n 18446744073709551615)
  where
    by : (a b c : Bool) → number_in (unwrap_or
        (option_or (if a then Some (v.Int (pos n)) else None)
        (option_or (if b then Some (v.Longlong (pos n)) else None) (if c then Some (v.Ulonglong n) else None))) (v.Ulonglong n)) ≡ Some (pos n)
    by true b c = refl
    by false true c = refl
    by false false true = refl
    by false false false = refl

-- and is read as one
state_read : (n : ℕ) → n < 18446744073709551616 → state_in (state_value n) ≡ Some n
state_read n less =
    let low : nat_le 0 n ≡ true = le-leb 0 n (omega arith) in
    let high : nat_le n 18446744073709551615 ≡ true = le-leb n 18446744073709551615 (omega arith) in
    ap (option_and_then (λ z. if is_within (pos 0) (pos 18446744073709551615) z then Some (unsigned_abs z) else None)) (state_number n)
    ∙ ap (λ b. if b && nat_le n 18446744073709551615 then Some n else None) low ∙ ap (λ b. if b then Some n else None) high

pub state_stays : (n : ℕ) (args : List Value) → n < 18446744073709551616 → n ≡ after state n args
state_stays n args less = sym (ap (λ found. unwrap_or found n) (state_read n less))

-- a number that 64 bits hold is of the kind of a state, and one beyond is of none
inferred_state : (n : ℕ) → n < 18446744073709551616 → inferred_number (pos n) ≡ Some (state_value n)
inferred_state n less =
    let low : nat_le 0 n ≡ true = le-leb 0 n (omega arith) in
    let high : nat_le n 18446744073709551615 ≡ true = le-leb n 18446744073709551615 (omega arith) in
    by (nat_le n 2147483647) (nat_le n 9223372036854775807) (nat_le 0 n && nat_le n 18446744073709551615) (rw low high)
  where
    by : (a b c : Bool) → c ≡ true →
        (let found = option_or (if a then Some (v.Int (pos n)) else None)
        (option_or (if b then Some (v.Longlong (pos n)) else None) (if c then Some (v.Ulonglong n) else None)) in found
        ≡ Some (unwrap_or found (v.Ulonglong n)))
    by true b c is = refl
    by false true c is = refl
    by false false true is = refl
    by false false false is = absurd (cc)

inferred_none : (n : ℕ) → 18446744073709551616 ≤ n → inferred_number (pos n) ≡ None
inferred_none n more =
    let int : nat_le n 2147483647 ≡ false = grind (arith, nat_tests) in
    let longlong : nat_le n 9223372036854775807 ≡ false = grind (arith, nat_tests) in
    let ulonglong : nat_le n 18446744073709551615 ≡ false = grind (arith, nat_tests) in
    by (nat_le n 2147483647) (nat_le n 9223372036854775807) (nat_le 0 n) (nat_le n 18446744073709551615) int longlong ulonglong
  where
    by : (a b c d : Bool) → a ≡ false → b ≡ false → d ≡ false
        → option_or (if a then Some (v.Int (pos n)) else None)
        (option_or (if b then Some (v.Longlong (pos n)) else None) (if c && d then Some (v.Ulonglong n) else None)) ≡ None
    by true b c d one two three = absurd (cc)
    by false true c d one two three = absurd (cc)
    by false false c true one two three = absurd (cc)
    by false false true false one two three = refl
    by false false false false one two three = refl

-- one more than a state
sum_of : (n : ℕ) → of_two number_in (λ x y. x +ℤ y) (state_value n) (v.Int (pos 1)) ≡ Some (pos (n + 1))
sum_of n =
    let sum : pos n +ℤ pos 1 ≡ pos (n + 1) = omega (arith, ints) in
    rw (state_number n) (ap (λ z. Some z) sum)

pub state_counts : (n : ℕ) (args : List Value) → n < 18446744073709551616 → min (n + 1) 18446744073709551615 ≡ after (one_more state) n args
state_counts n args less =
    sym (ap (λ found. state_or n (answer (number_value found))) (sum_of n) ∙ ⊎_elim below above (cases_lt (n + 1) 18446744073709551616))
  where
    below : n + 1 < 18446744073709551616 → state_or n (answer (number_value (Some (pos (n + 1))))) ≡ min (n + 1) 18446744073709551615
    below fits =
        let is : min (n + 1) 18446744073709551615 ≡ n + 1 = omega arith in
        ap (λ found. state_or n (answer (ok_or found BadValue))) (inferred_state (n + 1) fits) ∙ ap (λ found. unwrap_or found n) (state_read (n + 1) fits)
        ∙ sym is

    above : 18446744073709551616 ≤ n + 1 → state_or n (answer (number_value (Some (pos (n + 1))))) ≡ min (n + 1) 18446744073709551615
    above beyond =
        let is : min (n + 1) 18446744073709551615 ≡ n = omega arith in
        ap (λ found. state_or n (answer (ok_or found BadValue))) (inferred_none (n + 1) beyond) ∙ sym is
