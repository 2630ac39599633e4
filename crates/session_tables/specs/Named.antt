-- The result of a write to the property with a name.
use Rattle.std.specs.Prelude.{◌≡◌, ℕ, List, Some, None, Result, Ok, Err}
use Rattle.plain_types.specs.declared.code.Code.TheVariants.{BadValue}
use Rattle.plain_types.specs.declared.fault.Fault.{Fault}
use Rattle.plain_types.specs.declared.fault.Fault.TheVariants.{Refused, Memory}
use Rattle.variant_value.specs.declared.value.Value.{Value}
use Rattle.variant_value.specs.Values.{converted}
use Rattle.property_store.specs.declared.property.Property.{Property as At}
use Rattle.binding_graph.specs.declared.write_changes.WriteChanges.{WriteChanges}
use Rattle.binding_graph.specs.WriteChanges.{changes_in}
use Rattle.session_model.specs.Showing.{changes}
use Rattle.session_model.specs.State.{State, shown}
use Rattle.session_model.specs.Writing as writing
use Rattle.session_model.specs.Writing.{declared, with_writing}
use Rattle.session_tables.specs.declared.named.NamedWrite.{NamedWrite}
use Rattle.session_tables.specs.declared.named.NamedWrite.TheVariants.{Declared, Undeclared}
use Rattle.session_tables.specs.declared.tables.Tables.{Tables}
use Rattle.session_tables.specs.Tables.{state_at, with_state}

-- These are the changes between two states, if this property was written.
abbrev pub Tells : At → State → State → WriteChanges → Type 0
Tells at old new changed = changes_in at (shown new at.object at.number).0 changed ≡ changes old new (Some at)

module _ (place object : ℕ) (name : List ℕ) (value : Value) (old : Tables) where
  -- The declared property with this name was set to the value, converted to its kind.
  pub record WritesDeclared (found : ℕ) (changed : WriteChanges) (after : Tables) : Type 0 where
    pub of : writing.DeclaredField
    pub written : Value
    pub named : declared (state_at old place) object name ≡ Some of
    pub number : found ≡ of.number
    pub fits : converted of.kind value ≡ Some written
    pub new : after ≡ with_state old place (with_writing (state_at old place) object (writing.Declared of.number written))
    pub told : Tells (record { object = object; number = of.number }) (state_at old place) (state_at after place) changed

  -- There is a declared property with this name, and the value does not fit its kind.
  pub record DoesNotFit : Type 0 where
    pub of : writing.DeclaredField
    pub named : declared (state_at old place) object name ≡ Some of
    pub misfit : converted of.kind value ≡ None

  -- A value was written to the property with a name, or there is none, or it does not fit, or memory ran out.
  abbrev pub WritesNamed : Result NamedWrite Fault → Tables → Type 0
  WritesNamed (Ok (Declared number changed)) new = WritesDeclared number changed new
  WritesNamed (Ok (Undeclared rest)) new = (rest ≡ value) × (declared (state_at old place) object name ≡ None) × (new ≡ old)
  WritesNamed (Err (Refused code)) new = (code ≡ BadValue) × DoesNotFit × (new ≡ old)
  WritesNamed (Err Memory) new = Unit {0}
