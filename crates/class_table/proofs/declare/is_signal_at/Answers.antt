use Rattle.std.proofs.Common.{◌∙◌, ◌-◌, not, refl, sym, ap, arith, length}
use Rattle.std.proofs.lemmas.Option.{slice_get_past, slice_get_read}
use Rattle.class_table.specs.Lookup.{methods}
use Rattle.class_table.proofs.SignalLemmas.{not_not, signal_behind}
use Rattle.class_table.proofs.declare.is_signal_at.Goals as goal

pub returns-in-Some-get : goal.returns-in-Some-get
returns-in-Some-get c =
    let behind = signal_behind (methods c.args.table.now c.args.base) c.args.signed.now c.args.number (omega (arith, c.method_count-count.ensures.value)) in
    let found = c.in-Some-get.ensures.lookup in
    let at = slice_get_read c.args.signed.now (length c.args.signed.now)
    (c.args.number - c.method_count-count.result) c.in-Some-get.new.now refl found.3.0 found.1 in
    rw (behind, ← c.method_count-count.ensures.value, at) (sym (ap not c.is_none.ensures ∙ not_not c.is_none.result))

pub returns-in-None-get : goal.returns-in-None-get
returns-in-None-get c =
    let behind = signal_behind (methods c.args.table.now c.args.base) c.args.signed.now c.args.number (omega (arith, c.method_count-count.ensures.value)) in
    let past = slice_get_past c.args.signed.now (c.args.number - c.method_count-count.result) c.in-None-get.ensures.lookup.3 in
    rw (behind, ← c.method_count-count.ensures.value, past)
