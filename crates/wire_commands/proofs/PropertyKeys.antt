-- The keys of an object, as a map has them.
use Rattle.std.proofs.Common.{◌≡◌, ◌&&◌, ℕ, List, [], ◌∷◌, Bool, ap, refl, string_bytes, String, Global}
use Rattle.std.specs.List.{list_all}
use Rattle.std.specs.Map.{keys_of}
use Rattle.serde_json.specs.View.{members_view}
use Rattle.serde_json.specs.declared.value.Value.{Value}
use Rattle.json_reading.specs.Fields.{all_keys}

pub all_keys_of_entries : (test : List ℕ → Bool) (entries : List (String Global × Value))
    → all_keys test (members_view entries) ≡ list_all (λ key. test (string_bytes key)) (keys_of entries)
all_keys_of_entries test [] = refl
all_keys_of_entries test (entry ∷ entries) = ap (λ b. test (string_bytes entry.0) && b) (all_keys_of_entries test entries)
