use Rattle.std.proofs.Common.{◌∙◌, ap, sym, arith}
use Rattle.std.specs.Option.{option_map, option_map_or}
use Rattle.std.specs.Prelude.{option_and_then, slice_get}
use Rattle.std.proofs.lemmas.Grind.{common_steps}
use Rattle.property_store.specs.Store.{dynamic_value, field_number, named_value}
use Rattle.property_store.proofs.ReadLemmas.{no_row_read, row_read}
use Rattle.property_store.proofs.stores.Stores.value_named.Goals as goal

pub returns-in_err-row : goal.returns-in_err-row
returns-in_err-row c =
    ap (option_map (λ value. value.now)) c.from_residual.ensures
    ∙ ap (option_and_then (named_value c.args.name.now))
    (sym (no_row_read c.self.invariant c.self.view_is c.requires c.args.object c.in_err-row.ensures))

pub returns-in-Some : goal.returns-in-Some
returns-in-Some c =
    let row = c.in_ok-row.row.now in
    let number = c.in-Some.ensures.number ∙ ap (field_number c.args.name.now) c.fields_in.ensures in
    c.value_at.ensures
    ∙ (ap (λ o. option_map_or (λ n. slice_get row.values n) o (dynamic_value c.args.name.now row.dynamic.items)) number
    ∙ ap (option_and_then (named_value c.args.name.now))
    (sym (row_read c.self.invariant c.self.view_is c.requires c.args.object c.in_ok-row.ensures)))

pub returns-in-None : goal.returns-in-None
returns-in-None c =
    let row = c.in_ok-row.row.now in
    let number = c.in-None.ensures.number ∙ ap (field_number c.args.name.now) c.fields_in.ensures in
    c.value_of.ensures
    ∙ (ap (dynamic_value c.args.name.now) c.as_slice.ensures.value
    ∙ (ap (λ o. option_map_or (λ n. slice_get row.values n) o (dynamic_value c.args.name.now row.dynamic.items)) number
    ∙ ap (option_and_then (named_value c.args.name.now))
    (sym (row_read c.self.invariant c.self.view_is c.requires c.args.object c.in_ok-row.ensures))))

pub row_of-requires : goal.row_of-requires
row_of-requires c = grind (arith, common_steps)
