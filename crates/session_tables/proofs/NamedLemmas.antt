-- A write to the property of a name.
use Rattle.std.proofs.Common.{◌≡◌, ◌∙◌, ℕ, List, Some, None, sym, ap, subst}
use Rattle.signature_core.specs.declared.kind.Kind.{Kind}
use Rattle.variant_value.specs.declared.value.Value.{Value}
use Rattle.variant_value.specs.Values.{converted}
use Rattle.property_store.specs.Named.{declared_at}
use Rattle.property_store.specs.Store.{with_value}
use Rattle.property_store.specs.Store as store
use Rattle.property_store.proofs.ForCallers.{mapped, unmapped}
use Rattle.binding_values.specs.Graph.{unbound}
use Rattle.binding_graph.specs.declared.write_changes.WriteChanges.{WriteChanges}
use Rattle.session_tables.specs.Bound.{BoundShelves, bound_at, stored_at}
use Rattle.session_tables.proofs.DeclaredLemmas as bound
use Rattle.session_model.specs.Writing as writing
use Rattle.session_model.specs.Writing.{DeclaredField, declared, with_writing}
use Rattle.session_tables.specs.declared.tables.Tables.{Tables}
use Rattle.session_tables.specs.Named.{DoesNotFit, Tells, WritesDeclared}
use Rattle.session_tables.specs.Tables.{state_at, with_state}
use Rattle.session_tables.proofs.PropertyLemmas.{declared_pair, pair_of}
use Rattle.session_tables.proofs.BoundLemmas.{state_with_stores, with_stores}

module _ (place object : ℕ) (name : List ℕ) (value : Value) (old : Tables) where
  -- the property of a name, as a state sees it
  pub record IsDeclared (number : ℕ) (kind : Kind) : Type 0 where
    pub of : DeclaredField
    pub is : declared (state_at old place) object name ≡ Some of
    pub number_is : of.number ≡ number
    pub kind_is : of.kind ≡ kind

  pub declared_as : (number : ℕ) (kind : Kind) → declared_at (stored_at old.stores place) object name ≡ Some (number, kind) → IsDeclared number kind
  declared_as number kind is =
      let found = mapped pair_of (declared (state_at old place) object name) (number, kind) (sym (declared_pair (state_at old place) object name) ∙ is) in
      record { of = found.x; is = found.is; number_is = ap (λ (pair : ℕ × Kind). pair.0) found.gives; kind_is = ap (λ (pair : ℕ × Kind). pair.1) found.gives }

  pub undeclared : declared_at (stored_at old.stores place) object name ≡ None → declared (state_at old place) object name ≡ None
  undeclared is = unmapped pair_of (declared (state_at old place) object name) (sym (declared_pair (state_at old place) object name) ∙ is)

  -- what was written is written to the state
  pub writes_declared : (new : BoundShelves) (number : ℕ) (changed : WriteChanges) → bound.WritesDeclared place object name value old.stores number changed new
      → WritesDeclared place object name value old number changed (with_stores old new)
  writes_declared new number changed its =
      let there = declared_as number its.kind its.named in
      let at_of : BoundShelves = bound.with_written old.stores place (record { object = object; number = there.of.number }) its.fit in
      let is : new ≡ at_of = its.is ∙ ap (λ number. bound.with_written old.stores place (record { object = object; number = number }) its.fit)
      (sym there.number_is) in
      record {
        of = there.of;
        written = its.fit;
        named = there.is;
        number = sym there.number_is;
        fits = ap (λ kind. converted kind value) there.kind_is ∙ its.fits;
        new = ap (with_stores old) is
            ∙ state_with_stores old place (store.changed (with_value there.of.number its.fit) object (stored_at old.stores place))
            (unbound (bound_at old.stores place) (record { object = object; number = there.of.number }));
        told = subst (λ number. Tells (record { object = object; number = number }) (state_at old place) (state_at (with_stores old new) place) changed)
            (sym there.number_is) its.told;
      }

  -- also where it was written by its number
  pub writes_again : (new : Tables) (number : ℕ) (kind : Kind) (fit : Value) (changed : WriteChanges)
      → declared_at (stored_at old.stores place) object name ≡ Some (number, kind) → converted kind value ≡ Some fit
      → new ≡ with_state old place (with_writing (state_at old place) object (writing.Declared number fit))
      → Tells (record { object = object; number = number }) (state_at old place) (state_at new place) changed
      → WritesDeclared place object name value old number changed new
  writes_again new number kind fit changed named fits is told =
      let there = declared_as number kind named in
      record {
        of = there.of;
        written = fit;
        named = there.is;
        number = sym there.number_is;
        fits = ap (λ kind. converted kind value) there.kind_is ∙ fits;
        new = is ∙ ap (λ number. with_state old place (with_writing (state_at old place) object (writing.Declared number fit))) (sym there.number_is);
        told = subst (λ number. Tells (record { object = object; number = number }) (state_at old place) (state_at new place) changed)
            (sym there.number_is) told;
      }

  -- and what does not fit does not
  pub does_not_fit : bound.DoesNotFit place object name value old.stores → DoesNotFit place object name value old
  does_not_fit its =
      let there = declared_as its.number its.kind its.named in
      record { of = there.of; named = there.is; misfit = ap (λ kind. converted kind value) there.kind_is ∙ its.misfit }
