-- The small parts of expressions and actions in JSON.
use Rattle.std.specs.Prelude.{◌&&◌, ◌^◌, ℕ, Bool, true, false, List, [], ◌∷◌, Option, Result, Ok, Err}
use Rattle.std.specs.Prelude.{codes, bytes_eq, if◌then◌else◌, nat_le, nat_lt, option_and_then}
use Rattle.std.specs.List.{list_any}
use Rattle.std.specs.Option.{ok_or, option_map_or}
use Rattle.serde_json.specs.Data.{Data, boolean, number, string, object, Members, no_members, member}
use Rattle.serde_json.specs.Find.{get, as_number, as_object, as_str, as_u64}
use Rattle.plain_types.specs.Names.{is_name}
use Rattle.plain_types.specs.declared.code.Code.{Code}
use Rattle.plain_types.specs.declared.code.Code.TheVariants.{BadValue}
use Rattle.variant_value.specs.declared.value.Value.{Value}
use Rattle.variant_value.specs.declared.value.Value.TheVariants as v
use Rattle.variant_value.specs.Values.{inferred}
use Rattle.term_core.specs.declared.target.Target.{Target}
use Rattle.term_core.specs.declared.target.Target.TheVariants.{Itself, Sender, Child, Object}

-- What is read, or why it cannot be.
abbrev pub Read : Type 0 → Type 0
Read A = Result A Code

infixl 10 ◌>>=◌
abbrev pub ◌>>=◌ : {A B : Type 0} → Read A → (A → Read B) → Read B
(Ok value) >>= f = f value
(Err code) >>= f = Err code

-- The value if there is one, and otherwise a fault of form.
abbrev pub formed : {A : Type 0} → Option A → Read A
formed o = ok_or o BadValue

-- A value if a test holds, and otherwise a fault of form.
abbrev pub provided : {A : Type 0} → Bool → A → Read A
provided test value = if test then Ok value else Err BadValue

-- What is read if a test holds, and otherwise a fault of form.
abbrev pub where_holds : {A : Type 0} → Bool → Read A → Read A
where_holds test read = if test then read else Err BadValue

-- Whether members have no other keys than these.
abbrev pub keys_are_among : List (List ℕ) → Members → Bool
keys_are_among keys no_members = true
keys_are_among keys (member key json rest) = list_any (bytes_eq key) keys && keys_are_among keys rest

-- Whether JSON is an object with no other keys than these.
abbrev pub has_only : List (List ℕ) → Data → Bool
has_only keys json = option_map_or (keys_are_among keys) (as_object json) false

-- The result of reading an object with no other keys than these.
abbrev pub where_only : {A : Type 0} → List (List ℕ) → Data → Read A → Read A
where_only keys json read = where_holds (has_only keys json) read

-- The value at a key that must be present.
abbrev pub at_key : List ℕ → Data → Read Data
at_key key json = formed (get key json)

-- A text, and a text that is a name.
abbrev pub text_in : Data → Read (List ℕ)
text_in json = formed (as_str json)

abbrev pub name_in : Data → Read (List ℕ)
name_in json = do
  text ← text_in json
  provided (is_name text) text

-- A whole number, at least 0.
abbrev pub natural_in : Data → Read ℕ
natural_in json = formed (option_and_then as_u64 (as_number json))

-- True, false, a whole number or a text of any length.
abbrev pub constant_in : Data → Read Value
constant_in (boolean b) = Ok (v.Bool b)
constant_in (number n) = inferred (number n)
constant_in (string text) = Ok (v.Text text)
constant_in _ = Err BadValue

-- An object by its name, its number or its place in the tree.
abbrev pub word_target : List ℕ → Read Target
word_target word =
    if bytes_eq word (codes "self") then Ok Itself else (
    if bytes_eq word (codes "sender") then Ok Sender else Err BadValue)

abbrev pub numbered_target : ℕ → Read Target
numbered_target n = provided (nat_le 1 n && nat_lt n (2 ^ 32)) (Object n)

abbrev pub child_target : Data → Read Target
child_target json = do
  child ← at_key (codes "child") json
  text ← text_in child
  provided (has_only (codes "child" ∷ []) json) (Child text)

abbrev pub target_in : Data → Read Target
target_in (number n) = natural_in (number n) >>= numbered_target
target_in (string word) = word_target word
target_in (object inside) = child_target (object inside)
target_in _ = Err BadValue
