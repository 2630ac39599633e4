use Rattle.std.proofs.Common.{◌∙◌, Some, ap, sym}
use Rattle.std.specs.Option.{option_map}
use Rattle.property_store.specs.Store.{Properties}
use Rattle.property_store.proofs.ReadLemmas.{no_row_read, row_read}
use Rattle.property_store.proofs.stores.Stores.fields.Goals as goal

pub returns-in_err-row : goal.returns-in_err-row
returns-in_err-row c =
    ap (option_map (λ fields. fields.now)) c.from_residual.ensures
    ∙ ap (option_map (λ (of : Properties). of.fields))
    (sym (no_row_read c.self.invariant c.self.view_is c.requires c.args.object c.in_err-row.ensures))

pub returns : goal.returns
returns c =
    ap Some c.fields_in.ensures
    ∙ ap (option_map (λ (of : Properties). of.fields))
    (sym (row_read c.self.invariant c.self.view_is c.requires c.args.object c.in_ok-row.ensures))
