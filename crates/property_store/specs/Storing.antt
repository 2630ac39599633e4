-- Writes to the row of one object. No public clause cites this module.
use Rattle.std.specs.Prelude.{◌≡◌, ◌<◌, ℕ, Bool, false, not, is_some, if◌then◌else◌, IfOk, OnErr, OnOk, List, length}
use Rattle.std.specs.Prelude.{Option, Some, None, Result, Ok, Err, option_and_then, slice_get, slice_set}
use Rattle.std.specs.Option.{option_map_or}
use Rattle.std.specs.Result.{result_err}
use Rattle.signature_core.specs.declared.kind.Kind.{Kind}
use Rattle.shared_rows.specs.Table.{Table, with_place}
use Rattle.shared_rows.specs.Rows.{Keyed, row_under, rows_at, with_row}
use Rattle.plain_types.specs.Answers.{RefusedBy}
use Rattle.plain_types.specs.declared.code.Code.{Code}
use Rattle.plain_types.specs.declared.code.Code.TheVariants.{BadValue}
use Rattle.plain_types.specs.declared.fault.Fault.{Fault}
use Rattle.variant_value.specs.declared.value.Value.{Value}
use Rattle.variant_value.specs.Values.{converted, is_same}
use Rattle.property_store.specs.declared.field.Field.{Field}
use Rattle.property_store.specs.declared.link.Head.{Head}
use Rattle.property_store.specs.declared.link.Link.{Link}
use Rattle.property_store.specs.declared.link.Link.TheVariants.{Unmarked}
use Rattle.property_store.specs.declared.row.Row.{Row}
use Rattle.property_store.specs.declared.row.Stored.{Stored}
use Rattle.property_store.specs.declared.unwritten.Unwritten.{Unwritten}
use Rattle.property_store.specs.declared.unwritten.Unwritten.TheVariants.{Refused, Undeclared}
use Rattle.property_store.specs.Chain.{IsMarking}
use Rattle.property_store.specs.Store.{field_number, fields_in, refusal_of_name, with_name, without_name}

-- The value, converted to the property's kind.
abbrev pub fit_in : List Field → ℕ → Value → Option Value
fit_in fields number value = option_and_then (λ field. converted field.kind value) (slice_get fields number)

-- A value that does not fit is refused.
abbrev pub refusal_as : Kind → Value → Option Code
refusal_as kind value = if is_some (converted kind value) then None else Some BadValue

abbrev pub refusal_in : List Field → ℕ → Value → Option Code
refusal_in fields number value = option_and_then (λ field. refusal_as field.kind value) (slice_get fields number)

-- Whether the converted value differs from the present one.
abbrev pub is_other : Option Value → ℕ → List Value → Bool
is_other fit number values = option_map_or (λ fit. option_map_or (λ stands. not (is_same stands fit)) (slice_get values number) false) fit false

-- The values with the converted one.
abbrev pub with_fit : Option Value → ℕ → List Value → List Value
with_fit fit number values = option_map_or (λ fit. slice_set values number fit) fit values

-- There is a value and a link for each declared property.
pub record AreAsMany (fields : List Field) (row : Row) : Type 0 where
  pub values : length row.values ≡ length fields
  pub links : length row.links ≡ length fields

-- Whether the property was linked.
abbrev pub was_linked : Result Stored Code → Bool
was_linked (Ok stored) = stored.is_linked
was_linked (Err code) = false

-- If a value fits, its property is marked, and otherwise none.
abbrev pub IsMarkedWith : Option Value → Head → ℕ → List Link → List Link → Bool → Type 0
IsMarkedWith (Some fit) head number old new linked = IsMarking head number old new linked
IsMarkedWith None head number old new linked = (new ≡ old) × (linked ≡ false)

-- A value was stored in a row and its property marked, or it has its refusal; nothing else changed.
pub record IsStored (fields : List Field) (number : ℕ) (value : Value) (head : Head) (old new : Row) (result : Result Stored Code) : Type 0 where
  pub refused : result_err result ≡ refusal_in fields number value
  pub answer : IfOk result (λ stored. stored.is_change ≡ is_other (fit_in fields number value) number old.values)
  pub stored : new ≡ record old { values = with_fit (fit_in fields number value) number old.values; links = new.links }
  pub marked : IsMarkedWith (fit_in fields number value) head number old.links new.links (was_linked result)

-- A value was stored, or refused, in the row under a key, and no other row has changed.
pub record IsStoredUnder (layouts : List (List Field)) (rows new : Table (List (Keyed Row)))
    (place key number : ℕ) (value : Value) (head : Head) (result : Result Stored Code) : Type 0 where
  pub row : Row
  pub changed : Row
  pub under : row_under (rows_at rows place) key ≡ Some row
  pub done : IsStored (fields_in layouts row.class) number value head row changed result
  pub new_is : new ≡ with_place rows place (with_row (rows_at rows place) key changed)

-- The result of a write to the property with a number.
abbrev pub numbered : ℕ → Result Stored Code → Result (ℕ × Stored) Unwritten
numbered number (Ok stored) = Ok (number, stored)
numbered number (Err code) = Err (Refused code)

-- A value was stored in the property whose number was found, or there is none; nothing else changed.
abbrev pub IsNumbered : List Field → Value → Head → Row → Row → Result (ℕ × Stored) Unwritten → Option ℕ → Type 0
IsNumbered fields value head old new result None = (result ≡ Err (Undeclared value)) × (new ≡ old)
IsNumbered fields value head old new result (Some number) =
    (number < length fields) × ((done : Result Stored Code) × (result ≡ numbered number done) × IsStored fields number value head old new done)

-- A value was stored in the property with a name, or there is none; nothing else changed.
abbrev pub IsNamed : List Field → List ℕ → Value → Head → Row → Row → Result (ℕ × Stored) Unwritten → Type 0
IsNamed fields name value head old new result = IsNumbered fields value head old new result (field_number name fields)

-- The dynamic property with a name was set, or this has its refusal; nothing else changed.
pub record IsSet (name : List ℕ) (value : Value) (old new : Row) (result : Result (Unit {0}) Fault) : Type 0 where
  pub refused : RefusedBy (refusal_of_name name old.dynamic.items) result
  pub ok : OnOk result (new.dynamic.items ≡ with_name name value old.dynamic.items)
  pub err : OnErr result (new.dynamic.items ≡ old.dynamic.items)
  pub rest : new ≡ record old { dynamic = new.dynamic }

-- The dynamic property with a name was removed; nothing else changed.
pub record IsRemoved (name : List ℕ) (old new : Row) : Type 0 where
  pub removed : new.dynamic.items ≡ without_name name old.dynamic.items
  pub rest : new ≡ record old { dynamic = new.dynamic }

-- The mark of a property was taken; nothing else changed.
pub record IsUnlinked (number : ℕ) (old new : Row) (link : Link) : Type 0 where
  pub was : slice_get old.links number ≡ Some link
  pub rest : new ≡ record old { links = slice_set old.links number Unmarked }
