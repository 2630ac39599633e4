use Rattle.std.proofs.Common.{get_or, inl, inr, refl}
use Rattle.binding_values.specs.declared.eval_cache.Entry.{Entry}
use Rattle.binding_values.proofs.SortedLemmas.{found_row}
use Rattle.binding_values.proofs.eval_cache.enter.Goals as goal

pub returns-in-Ok-clause-ok : goal.returns-in-Ok-clause-ok
returns-in-Ok-clause-ok c =
    let default : Entry = record { at = c.args.at; row = c.args.row } in
    inl (record {
      entry = get_or c.args.order.now.items c.in-Ok.field-0 default;
      found = found_row (rw c.deref.ensures.value at c.in-Ok.ensures.row) c.requires default;
      same = refl;
    })

pub returns-in_ok-insert-in-Err-clause-ok : goal.returns-in_ok-insert-in-Err-clause-ok
returns-in_ok-insert-in-Err-clause-ok c = inr (record {
  position = c.in-Err.place;
  absent = rw c.deref.ensures.value at c.in-Err.ensures.gap;
  entered = c.in_ok-insert-in-Err.ensures.items;
})
