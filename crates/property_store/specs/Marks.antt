-- What contracts see of what was written.
use Rattle.std.specs.Prelude.{◌≡◌, ◌≢◌, ◌||◌, ◌&&◌, ◌==◌, ℕ, Bool, true, false, not, nat_lt, List, [], filter, is_some, length, slice_index_or}
use Rattle.std.specs.Option.{option_map_or}
use Rattle.signature_core.specs.declared.kind.Kind.{Kind}
use Rattle.variant_value.specs.declared.value.Value.{Value}
use Rattle.property_store.specs.declared.field.Field.{Field}
use Rattle.property_store.specs.declared.property.Property.{Property}
use Rattle.property_store.specs.declared.written.Written.{Written}
use Rattle.property_store.specs.declared.written.Written.TheVariants as told
use Rattle.property_store.specs.Named.{declared_at}
use Rattle.property_store.specs.Property.{among, is_property}
use Rattle.property_store.specs.Store.{Store, fitting}

-- What was written at a place and not taken yet.
pub record Marks : Type 0 where
  -- Any property may have another value, or no value.
  pub all : Bool
  -- These properties were written; each is listed once.
  pub each : List Property

abbrev pub no_marks : Marks
no_marks = record { all = false; each = [] }

abbrev pub all_marks : Marks
all_marks = record { all = true; each = [] }

abbrev pub is_marked : Marks → Property → Bool
is_marked marks q = marks.all || among q marks.each

-- Whether there is a mark.
abbrev pub has_marks : Marks → Bool
has_marks marks = marks.all || nat_lt 0 (length marks.each)

-- The marks of a place.
abbrev pub marks_at : List Marks → ℕ → Marks
marks_at marks place = slice_index_or marks place no_marks

-- At a place these properties are now marked too, and no other place has changed.
pub record AreMarked (place : ℕ) (these : Property → Bool) (old new : List Marks) : Type 0 where
  pub here : (q : Property) → is_marked (marks_at new place) q ≡ (these q || is_marked (marks_at old place) q)
  pub others : (other : ℕ) → other ≢ place → marks_at new other ≡ marks_at old other

-- A place has these marks now, and no other place has changed.
pub record HasMarks (place : ℕ) (marks : Marks) (old new : List Marks) : Type 0 where
  pub here : marks_at new place ≡ marks
  pub others : (other : ℕ) → other ≢ place → marks_at new other ≡ marks_at old other

-- Whether a value is written to this property: it exists, and the value fits it.
abbrev pub is_written : Store → ℕ → ℕ → Value → Property → Bool
is_written store object number value q = is_some (fitting store object number value) && is_property (record { object = object; number = number }) q

-- Whether a value is written to this property by its name.
abbrev pub is_written_named : Store → ℕ → List ℕ → Value → Property → Bool
is_written_named store object name value q = option_map_or (λ (at : ℕ × Kind). is_written store object at.0 value q) (declared_at store object name) false

-- Whether this is a declared property of a new object.
abbrev pub is_new : ℕ → List Field → Property → Bool
is_new object fields q = (q.object == object) && nat_lt q.number (length fields)

-- A mark is taken: none if there are no marks, all at once, or that of one property.
abbrev pub IsTaken : Marks → Marks → Written → Type 0
IsTaken old new told.None = (has_marks old ≡ false) × (new ≡ old)
IsTaken old new (told.One at) =
    (old.all ≡ false) × (among at old.each ≡ true) × (new ≡ record { all = false; each = filter (λ q. not (is_property at q)) old.each })
IsTaken old new told.All = (old.all ≡ true) × (new ≡ no_marks)
