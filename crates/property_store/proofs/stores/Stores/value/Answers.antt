use Rattle.std.proofs.Common.{◌∙◌, ap, sym, arith}
use Rattle.std.specs.Option.{option_map}
use Rattle.std.specs.Prelude.{option_and_then, slice_get}
use Rattle.shared_rows.specs.Rows.{rows_at}
use Rattle.std.proofs.lemmas.Grind.{common_steps}
use Rattle.property_store.specs.Inside.{shown}
use Rattle.property_store.specs.Store.{Properties}
use Rattle.property_store.proofs.KindLemmas.{value_kind}
use Rattle.property_store.proofs.PlaceLemmas.{found_sound}
use Rattle.property_store.proofs.ReadLemmas.{no_row_read, place_open, row_read}
use Rattle.property_store.proofs.stores.Stores.value.Goals as goal

pub returns-in_err-row-clause-value : goal.returns-in_err-row-clause-value
returns-in_err-row-clause-value c =
    ap (option_map (λ value. value.now)) c.from_residual.ensures
    ∙ ap (option_and_then (λ (of : Properties). slice_get of.values c.args.number))
    (sym (no_row_read c.self.invariant c.self.view_is c.requires c.args.object c.in_err-row.ensures))

pub returns-clause-value : goal.returns-clause-value
returns-clause-value c =
    c.value_at.ensures
    ∙ ap (option_and_then (λ (of : Properties). slice_get of.values c.args.number))
    (sym (row_read c.self.invariant c.self.view_is c.requires c.args.object c.in_ok-row.ensures))

pub returns-clause-kind : goal.returns-clause-kind
returns-clause-kind c =
    let of = shown c.self.inside.layouts c.in_ok-row.row.now in
    let sound = found_sound c.self.inside.layouts (rows_at c.self.inside.rows c.args.place)
    (c.self.invariant.sound c.args.place _ (place_open c.self.invariant c.self.view_is c.requires)) c.args.object c.in_ok-row.row.now c.in_ok-row.ensures in
    let one = row_read c.self.invariant c.self.view_is c.requires c.args.object c.in_ok-row.ensures in
    value_kind of sound c.args.number c.value_at.result c.value_at.ensures _
    (ap (option_and_then (λ (of : Properties). slice_get of.fields c.args.number)) (sym one))

pub row_of-requires : goal.row_of-requires
row_of-requires c = grind (arith, common_steps)
