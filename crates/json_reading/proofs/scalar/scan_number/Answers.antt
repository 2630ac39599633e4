use Rattle.std.proofs.Common.{◌≡◌, ◌+◌, ◌*◌, ◌^◌, ◌<◌, ◌≤◌, get_or, sym, ap, ◌∙◌, arith}
use Rattle.std.proofs.lemmas.List.{get_or-take}
use Rattle.std.proofs.lemmas.Int.Digits.{digits_more, digits_value_more}
use Rattle.std.proofs.lemmas.Str.{digit_value_digit}
use Rattle.std.specs.Char.{digit_value}
use Rattle.json_reading.proofs.Standing.{number_stands}
use Rattle.json_reading.proofs.scalar.scan_number.Goals as goal

pub digits-preserved : goal.digits-preserved
digits-preserved c =
    let d = c.args.bytes.now in
    let end = c.digits.end in
    let x = get_or d end 0 in
    let range : (48 ≤ x) × (x ≤ 57) = (grind arith, grind arith) in
    let worth : digit_value x + 48 ≡ x = digit_value_digit x range in
    let sum : c.in_ok-number.number ≡ c.digits.number * 10 + digit_value x = grind arith in
    let told : c.in_ok-number.number < 2 ^ 64 = grind arith in (
      digits_more 10 d end (omega arith) c.digits.invariant.0 (omega arith),
      sum ∙ ap (λ n. n * 10 + digit_value x) c.digits.invariant.1 ∙ sym (digits_value_more 10 d end (omega arith)),
      omega arith,
      told,
    )

pub returns : goal.returns
returns c =
    let d = c.args.bytes.now in
    let end = c.digits.end in
    let zero : get_or d 0 0 ≡ 48 → end ≡ 1 = grind arith in
    let some : 0 < end = omega arith in (
      number_stands d c.digits.number end c.digits.invariant.0 c.digits.invariant.1 some c.digits.invariant.2 c.digits.invariant.3
          (λ e. zero (sym (get_or-take end d 0 0 some) ∙ e)),
      c.digits.invariant.3,
    )
