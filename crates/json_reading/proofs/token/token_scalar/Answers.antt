use Rattle.std.proofs.Common.{◌≡◌, ◌⊎◌, inl, inr, ℕ, List, ◌∷◌, Bor, ap, ◌∙◌}
use Rattle.json.specs.Json.{value}
use Rattle.json.specs.Reads.{token_of}
use Rattle.json.specs.declared.token.Token.{Token}
use Rattle.json.specs.declared.token.Token.TheVariants.{EndObject, EndArray, Key, Bad}
use Rattle.json.proofs.Grammar.{value_is}
use Rattle.json_reading.specs.Faults.{BeginsNoValue}
use Rattle.json_reading.proofs.token.token_scalar.Goals as goal

begins_no_value : (t : Token) → (t ≡ EndObject) ⊎ ((t ≡ EndArray) ⊎ (((key : Bor (List ℕ)) × (t ≡ Key key)) ⊎ (t ≡ Bad))) → BeginsNoValue (token_of t)
begins_no_value t (inl is) depth rest = ap (λ token. value depth (token_of token ∷ rest)) is ∙ value_is depth _
begins_no_value t (inr (inl is)) depth rest = ap (λ token. value depth (token_of token ∷ rest)) is ∙ value_is depth _
begins_no_value t (inr (inr (inl (key, is)))) depth rest = ap (λ token. value depth (token_of token ∷ rest)) is ∙ value_is depth _
begins_no_value t (inr (inr (inr is))) depth rest = ap (λ token. value depth (token_of token ∷ rest)) is ∙ value_is depth _

pub returns-in-EndObject-clause-not_json : goal.returns-in-EndObject-clause-not_json
returns-in-EndObject-clause-not_json c = λ refused. begins_no_value c.args.token c.in-EndObject.is
