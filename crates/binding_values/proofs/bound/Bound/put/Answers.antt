use Rattle.std.proofs.Common.{◌∙◌, length, ap, arith}
use Rattle.std.proofs.lemmas.List.{length-set}
use Rattle.std.proofs.lemmas.List.Edits.{length-insert}
use Rattle.std.proofs.lemmas.Result.{err_from_is_err_and}
use Rattle.binding_values.specs.declared.binding.Binding.{Binding}
use Rattle.binding_values.proofs.BoundLemmas.{free_there, full_there, room_there, still_sound}
use Rattle.binding_values.proofs.SortedLemmas.{inserted, replaced}
use Rattle.binding_values.proofs.bound.Bound.put.Goals as goal

pub invariant_of-self : goal.invariant_of-self
invariant_of-self c = still_sound c.args.binding c.self.inside.rows.items _ c.self.invariant c.requires
    (replaced c.args.binding (rw c.as_slice.ensures.value at c.in-Ok.ensures.row) c.self.invariant.rising)
    (omega (arith, length-set c.self.inside.rows.items c.in-Ok.place c.args.binding, c.self.invariant.few))

pub returns-in-Ok-clause-ok : goal.returns-in-Ok-clause-ok
returns-in-Ok-clause-ok c = rw (← c.self.view_is)
    (replaced c.args.binding (rw c.as_slice.ensures.value at c.in-Ok.ensures.row) c.self.invariant.rising)

pub returns-in-Ok-clause-refused : goal.returns-in-Ok-clause-refused
returns-in-Ok-clause-refused c = rw (← c.self.view_is)
    (free_there c.self.invariant.rising (rw c.as_slice.ensures.value at c.in-Ok.ensures.row) c.args.binding)

pub invariant_of-self-in-Err : goal.invariant_of-self-in-Err
invariant_of-self-in-Err c =
    let gap = rw c.as_slice.ensures.value at c.in-Err.ensures.gap in
    still_sound c.args.binding c.self.inside.rows.items _ c.self.invariant c.requires (c.in_ok-insert-in-Err.ensures.items ∙ inserted c.args.binding gap)
    (omega (
      arith,
      ap (length {A = Binding}) c.in_ok-insert-in-Err.ensures.items,
      length-insert c.self.inside.rows.items c.in-Err.place c.args.binding gap.within,
      c.if-len-ge-BINDINGS.false,
    ))

pub returns-in_ok-insert-in-Err-clause-ok : goal.returns-in_ok-insert-in-Err-clause-ok
returns-in_ok-insert-in-Err-clause-ok c = rw (← c.self.view_is)
    (c.in_ok-insert-in-Err.ensures.items ∙ inserted c.args.binding (rw c.as_slice.ensures.value at c.in-Err.ensures.gap))

pub returns-then-len-ge-BINDINGS-clause-refused : goal.returns-then-len-ge-BINDINGS-clause-refused
returns-then-len-ge-BINDINGS-clause-refused c = rw (← c.self.view_is)
    (full_there (rw c.as_slice.ensures.value at c.in-Err.ensures.gap) (omega (arith, c.if-len-ge-BINDINGS.true)))

pub returns-in_err-insert-in-Err-clause-refused : goal.returns-in_err-insert-in-Err-clause-refused
returns-in_err-insert-in-Err-clause-refused c = let p = err_from_is_err_and c.from_residual.result c.from_residual.ensures.1 in
    rw (p.1, p.2, ← c.self.view_is)
    (room_there (rw c.as_slice.ensures.value at c.in-Err.ensures.gap) (omega (arith, c.if-len-ge-BINDINGS.false)))

pub returns-in_ok-insert-in-Err-clause-refused : goal.returns-in_ok-insert-in-Err-clause-refused
returns-in_ok-insert-in-Err-clause-refused c = rw (← c.self.view_is)
    (room_there (rw c.as_slice.ensures.value at c.in-Err.ensures.gap) (omega (arith, c.if-len-ge-BINDINGS.false)))
