-- Tokens that no JSON object can have. Only private clauses cite this.
use Rattle.std.specs.Prelude.{◌≡◌, ℕ, List, ◌∷◌, None}
use Rattle.json.specs.Token.{Token}
use Rattle.json.specs.Json.{items, value}

-- No value begins with this token.
abbrev pub BeginsNoValue : Token → Type 0
BeginsNoValue token = (depth : ℕ) (rest : List Token) → value depth (token ∷ rest) ≡ None

-- The tokens do not begin with the rest of a list that is a member's value.
abbrev pub HasNoItems : List Token → Type 0
HasNoItems tokens = (turns : ℕ) → items (value 125) turns tokens ≡ None
