-- Members and their values, as `serde_json` sees them.
use Rattle.std.specs.Prelude.{List, [], ◌∷◌}
use Rattle.serde_json.specs.Data.{Data, null, boolean, number, string, array, float, unsigned, Items, no_items, item, Members, no_members, put}
use Rattle.serde_json.specs.Find.{of_integer}
use Rattle.serde_json.specs.View.{view}
use Rattle.json_reading.specs.declared.field.Scalar.{Scalar}
use Rattle.json_reading.specs.declared.field.Scalar.TheVariants.{Null, Truth, Number, Signed, Real, Text}
use Rattle.json_reading.specs.declared.field.Field.{Field}
use Rattle.json_reading.specs.declared.field.Field.TheVariants as field
use Rattle.json_reading.specs.declared.field.Member.{Member}
use Rattle.json_reading.specs.Reals.{float_in}

abbrev pub scalar_data : Scalar → Data
scalar_data Null = null
scalar_data (Truth t) = boolean t
scalar_data (Number n) = number (unsigned n)
scalar_data (Signed z) = number (of_integer z)
scalar_data (Real r) = number (float (float_in r.text.now))
scalar_data (Text t) = string t.now

abbrev pub items_in : List Scalar → Items
items_in [] = no_items
items_in (s ∷ ss) = item (scalar_data s) (items_in ss)

abbrev pub data_of : Field → Data
data_of (field.Plain s) = scalar_data s
data_of (field.List ss) = array (items_in ss.items)
data_of (field.Tree v) = view v.now
data_of (field.Owned b) = view b.value.json

-- The members, each added to those before it.
abbrev pub members_from : Members → List Member → Members
members_from found [] = found
members_from found (m ∷ ms) = members_from (put m.key.now (data_of m.value) found) ms

abbrev pub members_in : List Member → Members
members_in ms = members_from no_members ms
