use Rattle.std.proofs.Common.{◌≡◌, ◌∙◌, Err, Some, ap, refl, sym, subst}
use Rattle.property_store.specs.declared.unwritten.Unwritten.TheVariants.{Refused, Undeclared}
use Rattle.property_store.specs.Named.{declared_at}
use Rattle.property_store.specs.Table.{StoresView, store_at}
use Rattle.property_store.proofs.ForCallers.{ok_or_none, ok_or_some}
use Rattle.session_tables.specs.Bound.{seen_of}
use Rattle.session_tables.proofs.BoundLemmas.{shelf_there, with_stores}
use Rattle.session_tables.proofs.DeclaredLemmas.{WritesDeclared}
use Rattle.session_tables.proofs.FittingLemmas.{declared_field, fits_again, fitting_kind, named_alone, not_named}
use Rattle.session_tables.proofs.NamedLemmas.{does_not_fit, undeclared, writes_again, writes_declared}
use Rattle.session_tables.proofs.TablesLemmas.{of_columns}
use Rattle.session_tables.proofs.tables.Tables.write_named.Goals as goal

pub returns-in-Ok-clause-writes : goal.returns-in-Ok-clause-writes
returns-in-Ok-clause-writes c =
    let tables = (of_columns c.self.inside.0.0 (seen_of c.self.inside.0.1.0.stores.shelves c.self.inside.0.1.0.bindings) c.self.inside.0.1.1.0
    c.self.inside.0.1.1.1.0 c.self.inside.0.1.1.1.1.0 c.self.inside.0.1.1.1.1.1.0) in
    let place = c.args.place in
    let stores = c.self.inside.0.1.0.stores.shelves in
    let bindings = c.self.inside.0.1.0.bindings in
    let new = c.write_named.new.self.shelves in
    rw (← c.self.view_is)
    (writes_declared place c.args.object c.args.name.now c.args.value tables (seen_of new bindings) c.in-Ok.number c.alone-changed.result
    (subst (λ changed. WritesDeclared place c.args.object c.args.name.now c.args.value (seen_of stores bindings) c.in-Ok.number changed (seen_of new bindings))
    (sym c.alone-changed.ensures)
    (named_alone stores new bindings place c.args.object c.args.name.now c.args.value c.in-Ok.number c.in-Ok.is_change
    (shelf_there tables place stores bindings refl (rw (← c.self.view_is) at c.requires.place))
    (sym c.is_idle.ensures.idle ∙ c.if-is_idle.true) c.is_idle.ensures.sound c.requires.short
    (sym c.in-Ok.is ∙ c.write_named.ensures.answer) c.write_named.ensures.new)))

pub returns-in-Err-Undeclared-clause-writes : goal.returns-in-Err-Undeclared-clause-writes
returns-in-Err-Undeclared-clause-writes c =
    let tables = (of_columns c.self.inside.0.0 (seen_of c.self.inside.0.1.0.stores.shelves c.self.inside.0.1.0.bindings) c.self.inside.0.1.1.0
    c.self.inside.0.1.1.1.0 c.self.inside.0.1.1.1.1.0 c.self.inside.0.1.1.1.1.1.0) in
    let place = c.args.place in
    let its = not_named c.self.inside.0.1.0.stores.shelves c.write_named.new.self.shelves c.self.inside.0.1.0.bindings place c.args.object c.args.name.now
    c.args.value (Undeclared c.in-Err-Undeclared.value)
    (sym (c.in-Err-Undeclared.is ∙ ap Err c.in-Err-Undeclared.field-0-is) ∙ c.write_named.ensures.answer)
    (ap (λ (stores : StoresView). stores.shelves) c.in-Err-Undeclared.ensures.err) in
    rw (← c.self.view_is) (its.0, undeclared place c.args.object c.args.name.now c.args.value tables its.1, ap (with_stores tables) its.2)

pub returns-in-Err-Refused-clause-writes : goal.returns-in-Err-Refused-clause-writes
returns-in-Err-Refused-clause-writes c =
    let tables = (of_columns c.self.inside.0.0 (seen_of c.self.inside.0.1.0.stores.shelves c.self.inside.0.1.0.bindings) c.self.inside.0.1.1.0
    c.self.inside.0.1.1.1.0 c.self.inside.0.1.1.1.1.0 c.self.inside.0.1.1.1.1.1.0) in
    let place = c.args.place in
    let its = not_named c.self.inside.0.1.0.stores.shelves c.write_named.new.self.shelves c.self.inside.0.1.0.bindings place c.args.object c.args.name.now
    c.args.value (Refused c.in-Err-Refused.code) (sym (c.in-Err-Refused.is ∙ ap Err c.in-Err-Refused.field-0-is) ∙ c.write_named.ensures.answer)
    (ap (λ (stores : StoresView). stores.shelves) c.in-Err-Refused.ensures.err) in
    rw (← c.self.view_is) (its.0, does_not_fit place c.args.object c.args.name.now c.args.value tables its.1, ap (with_stores tables) its.2)

pub returns-in_default-convert-clause-writes : goal.returns-in_default-convert-clause-writes
returns-in_default-convert-clause-writes c =
    let named : declared_at (store_at c.self.inside.0.1.0.stores.shelves c.args.place) c.args.object c.args.name.now ≡ Some (c.in-Some.number, c.in-Some.kind) =
    sym c.declared.ensures ∙ c.in-Some.is in
    rw (← c.self.view_is) (
      refl,
      does_not_fit c.args.place c.args.object c.args.name.now c.args.value
          (of_columns c.self.inside.0.0 (seen_of c.self.inside.0.1.0.stores.shelves c.self.inside.0.1.0.bindings) c.self.inside.0.1.1.0 c.self.inside.0.1.1.1.0
          c.self.inside.0.1.1.1.1.0 c.self.inside.0.1.1.1.1.1.0)
          (record {
            number = c.in-Some.number;
            kind = c.in-Some.kind;
            named = named;
            misfit = ok_or_none _ c.in_default-convert.field-0 c.args.value (sym c.in_default-convert.is ∙ c.convert.ensures.moved);
          }),
      refl,
    )

pub write-requires-clause-fits : goal.write-requires-clause-fits
write-requires-clause-fits c =
    let store = store_at c.self.inside.0.1.0.stores.shelves c.args.place in
    let named : declared_at (store_at c.self.inside.0.1.0.stores.shelves c.args.place) c.args.object c.args.name.now ≡ Some (c.in-Some.number, c.in-Some.kind) =
    sym c.declared.ensures ∙ c.in-Some.is in
    rw (← c.self.view_is)
    (fitting_kind store c.args.object c.in-Some.number c.in-Some.kind c.in-Ok-convert.value
    (declared_field store c.args.object c.args.name.now c.in-Some.number c.in-Some.kind named)
    ∙ fits_again c.in-Some.kind c.args.value c.in-Ok-convert.value
    (ok_or_some _ c.in-Ok-convert.value c.args.value (sym c.in-Ok-convert.is ∙ c.convert.ensures.moved)))

pub returns-clause-writes : goal.returns-clause-writes
returns-clause-writes c =
    let named : declared_at (store_at c.self.inside.0.1.0.stores.shelves c.args.place) c.args.object c.args.name.now ≡ Some (c.in-Some.number, c.in-Some.kind) =
    sym c.declared.ensures ∙ c.in-Some.is in
    writes_again c.args.place c.args.object c.args.name.now c.args.value c.args.self.now c.write.new.self c.in-Some.number c.in-Some.kind c.in-Ok-convert.value
    c.in_ok-changed.changed (rw (← c.self.view_is) named)
    (ok_or_some _ c.in-Ok-convert.value c.args.value (sym c.in-Ok-convert.is ∙ c.convert.ensures.moved)) c.in_ok-changed.ensures.ok c.in_ok-changed.ensures.told
