use Rattle.std.proofs.Common.{◌∙◌, ap, sym, map}
use Rattle.std.specs.List.{slice_get}
use Rattle.std.specs.Option.{option_copied}
use Rattle.stored_slots.proofs.TableLemmas.{none_beyond, part_read}
use Rattle.stored_slots.proofs.table.Functors.row.Goals as goal

pub returns-in_err-stored-clause-row : goal.returns-in_err-stored-clause-row
returns-in_err-stored-clause-row g c =
    ap (λ found. option_copied found) c.from_residual.ensures
    ∙ sym (none_beyond (λ stored. stored.functor) c.deref.result.now c.args.index c.in_err-stored.ensures.lookup.3)
    ∙ ap (λ all. slice_get (map (λ stored. stored.functor) all) c.args.index) c.deref.ensures.value

pub returns-clause-row : goal.returns-clause-row
returns-clause-row g c =
    let found = c.in_ok-stored.ensures.lookup in
    sym (part_read (λ stored. stored.functor) c.deref.result.now c.args.index c.in_ok-stored.stored.now found.3.0 found.1)
    ∙ ap (λ all. slice_get (map (λ stored. stored.functor) all) c.args.index) c.deref.ensures.value
