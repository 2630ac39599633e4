-- How members without trees are spelled: by the tokens of `json`, and in a text. Only private clauses cite this.
use Rattle.std.specs.Prelude.{◌≡◌, ℕ, ◌^◌, ◌<◌, ◌≤◌, List, [], ◌∷◌, ◌++◌, length, drop, map, decimal, ⊤, FitsSigned}
use Rattle.std.specs.Int.{w64}
use Rattle.std.specs.Fmt.{signed_decimal}
use Rattle.json.specs.Token.{Token, begin_object, end_object, begin_array, end_array, key, string, number, boolean, null}
use Rattle.json.specs.Print.{quoted, print}
use Rattle.json_reading.specs.declared.field.Scalar.{Scalar}
use Rattle.json_reading.specs.declared.field.Scalar.TheVariants.{Null, Truth, Number, Signed, Real, Text}
use Rattle.json_reading.specs.declared.field.Field.{Field}
use Rattle.json_reading.specs.declared.field.Field.TheVariants as field
use Rattle.json_reading.specs.declared.field.Member.{Member}

abbrev pub scalar_token : Scalar → Token
scalar_token Null = null
scalar_token (Truth t) = boolean t
scalar_token (Number n) = number (decimal n)
scalar_token (Signed z) = number (signed_decimal z)
scalar_token (Real r) = number r.text.now
scalar_token (Text t) = string t.now

abbrev pub field_tokens : Field → List Token
field_tokens (field.Plain s) = scalar_token s ∷ []
field_tokens (field.List ss) = begin_array ∷ (map scalar_token ss.items ++ end_array ∷ [])
field_tokens (field.Tree v) = []
field_tokens (field.Owned b) = []

abbrev pub member_tokens : List Member → List Token
member_tokens [] = []
member_tokens (m ∷ ms) = key m.key.now ∷ (field_tokens m.value ++ member_tokens ms)

abbrev pub object_tokens : List Member → List Token
object_tokens ms = begin_object ∷ (member_tokens ms ++ end_object ∷ [])

abbrev pub member_text : Member → List ℕ
member_text m = quoted m.key.now ++ (58 ∷ [] ++ print (field_tokens m.value))

-- A number has at most 64 bits.
abbrev pub Fits : Scalar → Type 0
Fits Null = ⊤
Fits (Truth t) = ⊤
Fits (Number n) = n < 2 ^ 64
Fits (Signed z) = FitsSigned w64 z
Fits (Real r) = ⊤
Fits (Text t) = ⊤

abbrev pub AllFit : List Scalar → Type 0
AllFit [] = ⊤
AllFit (s ∷ ss) = Fits s × AllFit ss

-- The value is neither a tree nor its own.
abbrev pub IsSpelled : Field → Type 0
IsSpelled (field.Plain s) = Fits s
IsSpelled (field.List ss) = AllFit ss.items
IsSpelled (field.Tree v) = ⊥
IsSpelled (field.Owned b) = ⊥

abbrev pub AreSpelled : List Member → Type 0
AreSpelled [] = ⊤
AreSpelled (m ∷ ms) = IsSpelled m.value × AreSpelled ms

-- The text `s` is in `d` from `i` up to `j`.
pub record StandsAt (d : List ℕ) (i : ℕ) (s : List ℕ) (j : ℕ) : Type 0 where
  pub text : drop i d ≡ s ++ drop j d
  pub later : i < j
  pub within : j ≤ length d
