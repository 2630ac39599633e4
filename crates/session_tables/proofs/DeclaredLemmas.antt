-- What a write comes to, as the stores of all places see it.
use Rattle.std.specs.Prelude.{◌≡◌, ℕ, List, Some, None, Result, Ok, Err}
use Rattle.plain_types.specs.declared.code.Code.TheVariants.{BadValue}
use Rattle.signature_core.specs.declared.kind.Kind.{Kind}
use Rattle.variant_value.specs.declared.value.Value.{Value}
use Rattle.variant_value.specs.Values.{converted}
use Rattle.property_store.specs.declared.unwritten.Unwritten.{Unwritten}
use Rattle.property_store.specs.declared.unwritten.Unwritten.TheVariants.{Refused, Undeclared}
use Rattle.property_store.specs.Named.{declared_at}
use Rattle.property_store.specs.Store.{with_value}
use Rattle.property_store.specs.Store as store
use Rattle.property_store.specs.declared.property.Property.{Property}
use Rattle.binding_values.specs.Graph.{unbound, value_in}
use Rattle.binding_graph.specs.declared.write_changes.WriteChanges.{WriteChanges}
use Rattle.session_tables.specs.Bound.{BoundShelves, bound_at, stored_at, with_bound}
use Rattle.binding_graph.specs.WriteChanges.{changes_in}
use Rattle.session_tables.specs.Told.{told_at}

-- the changes where a property was written
abbrev pub TellsWritten : ℕ → Property → BoundShelves → BoundShelves → WriteChanges → Type 0
TellsWritten place at old new changed = changes_in at (value_in (stored_at new place) (bound_at new place) at).0 changed ≡ told_at place old new (Some at)

-- a declared property was given a value of its kind, and is bound no longer
abbrev pub with_written : BoundShelves → ℕ → Property → Value → BoundShelves
with_written bound place at value =
    with_bound bound place (store.changed (with_value at.number value) at.object (stored_at bound place)) (unbound (bound_at bound place) at)

module _ (place object : ℕ) (name : List ℕ) (value : Value) (old : BoundShelves) where
  -- a declared property of this name was given the value as one of its kind
  pub record WritesDeclared (number : ℕ) (changed : WriteChanges) (new : BoundShelves) : Type 0 where
    pub kind : Kind
    pub fit : Value
    pub named : declared_at (stored_at old place) object name ≡ Some (number, kind)
    pub fits : converted kind value ≡ Some fit
    pub is : new ≡ with_written old place (record { object = object; number = number }) fit
    pub told : TellsWritten place (record { object = object; number = number }) old new changed

  -- there is one of this name, whose kind the value does not fit
  pub record DoesNotFit : Type 0 where
    pub number : ℕ
    pub kind : Kind
    pub named : declared_at (stored_at old place) object name ≡ Some (number, kind)
    pub misfit : converted kind value ≡ None

  -- a value was written to the property of a name; or there is none, or it does not fit
  abbrev pub WritesNamed : Result (ℕ × WriteChanges) Unwritten → BoundShelves → Type 0
  WritesNamed (Ok found) new = WritesDeclared found.0 found.1 new
  WritesNamed (Err (Undeclared rest)) new = (rest ≡ value) × (declared_at (stored_at old place) object name ≡ None) × (new ≡ old)
  WritesNamed (Err (Refused code)) new = (code ≡ BadValue) × DoesNotFit × (new ≡ old)
