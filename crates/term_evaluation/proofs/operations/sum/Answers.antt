use Rattle.std.proofs.Common.{◌≡◌, ◌+ℤ◌, ◌∙◌, sym, ap, to_z, of_z, arith}
use Rattle.std.specs.Int.{w128}
use Rattle.std.proofs.lemmas.Int.{ints}
use Rattle.variant_value.specs.Values.{inferred_number}
use Rattle.term_evaluation.proofs.operations.sum.Goals as goal

pub returns : goal.returns
returns c =
    let x = c.in_ok-number.field-0 in
    let y = c.in_ok-number-2.field-0 in
    let first = c.in_ok-number.ensures in
    let second = c.in_ok-number-2.ensures in
    let exact : to_z w128 (of_z w128 (to_z w128 (of_z w128 x) +ℤ to_z w128 (of_z w128 y))) ≡ x +ℤ y = omega (arith, ints) in
    rw (sym first.exact, sym second.exact) (c.number_value.ensures ∙ ap inferred_number exact)
