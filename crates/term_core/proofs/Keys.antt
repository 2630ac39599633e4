-- The keys of an object, as a map has them.
use Rattle.std.proofs.Common.{◌≡◌, ℕ, List, [], ◌∷◌, ◌||◌, Bool, ap, refl, map, string_bytes, bytes_eq, String, Global, Bor}
use Rattle.std.specs.List.{list_any, list_all}
use Rattle.std.specs.Map.{keys_of}
use Rattle.serde_json.specs.View.{members_view}
use Rattle.serde_json.specs.declared.value.Value.{Value}
use Rattle.term_core.specs.Json.{keys_are_among}

list_any-map : {A B : Type 0} (p : B → Bool) (f : A → B) (xs : List A) → list_any p (map f xs) ≡ list_any (λ x. p (f x)) xs
list_any-map p f [] = refl
list_any-map p f (x ∷ xs) = ap (λ b. p (f x) || b) (list_any-map p f xs)

pub keys_are_among_entries : (allowed : List (Bor (List ℕ))) (es : List (String Global × Value))
    → keys_are_among (map (λ key. key.now) allowed) (members_view es)
    ≡ list_all (λ key. list_any (λ other. bytes_eq (string_bytes key) other.now) allowed) (keys_of es)
keys_are_among_entries allowed [] = refl
keys_are_among_entries allowed (e ∷ es) = rw (list_any-map, keys_are_among_entries allowed es)
