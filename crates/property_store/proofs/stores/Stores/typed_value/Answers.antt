use Rattle.std.proofs.Common.{◌∙◌, ap, sym}
use Rattle.std.specs.Option.{option_map}
use Rattle.std.specs.Prelude.{option_and_then}
use Rattle.property_store.specs.Store.{typed_value}
use Rattle.property_store.proofs.ReadLemmas.{no_row_read, row_read}
use Rattle.property_store.proofs.stores.Stores.typed_value.Goals as goal

pub returns-in_err-row : goal.returns-in_err-row
returns-in_err-row c =
    ap (option_map (λ typed. (typed.0, typed.1.now))) c.from_residual.ensures
    ∙ ap (option_and_then (typed_value c.args.number))
    (sym (no_row_read c.self.invariant c.self.view_is c.requires c.args.object c.in_err-row.ensures))

pub returns : goal.returns
returns c =
    rw c.fields_in.ensures at c.typed_value.ensures
    ∙ ap (option_and_then (typed_value c.args.number))
    (sym (row_read c.self.invariant c.self.view_is c.requires c.args.object c.in_ok-row.ensures))
