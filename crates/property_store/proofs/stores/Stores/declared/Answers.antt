use Rattle.std.proofs.Common.{◌∙◌, ap, sym}
use Rattle.std.specs.Prelude.{option_and_then}
use Rattle.property_store.specs.Store.{Properties, declared_in}
use Rattle.property_store.proofs.ReadLemmas.{no_row_read, row_read}
use Rattle.property_store.proofs.stores.Stores.declared.Goals as goal

pub returns-in_err-row : goal.returns-in_err-row
returns-in_err-row c =
    c.from_residual.ensures
    ∙ ap (option_and_then (λ (of : Properties). declared_in c.args.name.now of.fields))
    (sym (no_row_read c.self.invariant c.self.view_is c.requires c.args.object c.in_err-row.ensures))

pub returns : goal.returns
returns c =
    c.declared_in.ensures
    ∙ (ap (declared_in c.args.name.now) c.fields_in.ensures
    ∙ ap (option_and_then (λ (of : Properties). declared_in c.args.name.now of.fields))
    (sym (row_read c.self.invariant c.self.view_is c.requires c.args.object c.in_ok-row.ensures)))
