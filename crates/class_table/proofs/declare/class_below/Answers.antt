use Rattle.class_table.proofs.DeclaringLemmas.{refused_below}
use Rattle.class_table.proofs.declare.class_below.Goals as goal

pub returns-in_err-check_declared : goal.returns-in_err-check_declared
returns-in_err-check_declared c =
    let said = rw (c.as_slice-2.ensures.value, c.as_slice-3.ensures.value) at c.in_err-check_declared.ensures.exact in
    let read = rw c.as_slice.ensures.value at c.in_ok-signed.ensures.exact in
    refused_below c.args.table.now c.args.base _ _ c.in_err-check_declared.field-0.0 c.from_residual-in_err-check_declared.result
    c.from_residual-in_err-check_declared.ensures.1 read said
