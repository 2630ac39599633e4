-- Values at a key of an object.
use Rattle.std.specs.Prelude.{◌&&◌, ℕ, Bool, true, List, [], ◌∷◌, if◌then◌else◌, Option, Some, None, option_and_then}
use Rattle.serde_json.specs.Data.{Data, array, Items, no_items, item, Members, no_members, member}
use Rattle.serde_json.specs.Find.{get, as_str}
use Rattle.plain_types.specs.Names.{is_name}

infixl 10 ◌>>=◌
abbrev pub ◌>>=◌ : {A B : Type 0} → Option A → (A → Option B) → Option B
o >>= f = option_and_then f o

-- The value, if the test is passed.
abbrev pub when : {A : Type 0} → Bool → A → Option A
when test value = if test then Some value else None

-- The text at this key.
unfoldable pub text_at : List ℕ → Data → Option (List ℕ)
text_at key json = option_and_then as_str (get key json)

-- The name at this key.
unfoldable pub name_at : List ℕ → Data → Option (List ℕ)
name_at key json = do
  text ← text_at key json
  when (is_name text) text

-- Whether every key passes a test.
abbrev pub all_keys : (List ℕ → Bool) → Members → Bool
all_keys test no_members = true
all_keys test (member key value rest) = test key && all_keys test rest

-- The elements of an array. Other JSON has none.
abbrev pub elements_in : Items → List Data
elements_in no_items = []
elements_in (item json rest) = json ∷ elements_in rest

abbrev pub elements_of : Data → List Data
elements_of (array items) = elements_in items
elements_of _ = []
