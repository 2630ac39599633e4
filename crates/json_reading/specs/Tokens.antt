-- What `serde_json` reads from tokens.
use Rattle.std.specs.Prelude.{ℕ, List, length, Option}
use Rattle.json.specs.Token.{Token}
use Rattle.json.specs.Json.{items, members, value}
use Rattle.serde_json.specs.Data.{Data, Items, Members, no_members}
use Rattle.serde_json.specs.Read.{converted, of_items, of_json, of_members}

-- A value in which arrays and objects nest no deeper than this, with the tokens after it.
abbrev pub value_in : ℕ → List Token → Option (Data × List Token)
value_in depth tokens = converted of_json (value depth tokens)

-- The items up to the bracket that closes their array, with the tokens after it.
abbrev pub rest_of_items : ℕ → List Token → Option (Items × List Token)
rest_of_items depth tokens = converted of_items (items (value depth) (length tokens) tokens)

-- The members up to the brace that closes their object, with the tokens after it.
abbrev pub rest_of_members : ℕ → List Token → Option (Members × List Token)
rest_of_members depth tokens = converted (λ parsed. of_members parsed no_members) (members (value depth) (length tokens) tokens)
