-- JSON as the code goes over it, and as the definitions do.
use Rattle.std.proofs.Common.{◌≡◌, ℕ, ◌&&◌, List, [], ◌∷◌, map, String, Global, string_bytes, bytes_eq, Bor, refl, ap}
use Rattle.std.specs.List.{list_all, list_any}
use Rattle.serde_json.specs.View.{view, items_view, members_view}
use Rattle.serde_json.specs.declared.value.Value.{Value}
use Rattle.term_core.specs.Json.{keys_are_among}
use Rattle.class_table.specs.Written.{elements}
use Rattle.class_table.proofs.ListLemmas.{list_any-map}

pub elements_items_view : (values : List Value) → elements (items_view values) ≡ map view values
elements_items_view [] = refl
elements_items_view (value ∷ values) = ap (λ rest. view value ∷ rest) (elements_items_view values)

pub keys_are_among_view : (known : List (Bor (List ℕ))) (entries : List (String Global × Value))
    → keys_are_among (map (λ one. one.now) known) (members_view entries)
    ≡ list_all (λ key. list_any (λ one. bytes_eq (string_bytes key) one.now) known) (map (λ entry. entry.0) entries)
keys_are_among_view known [] = refl
keys_are_among_view known (entry ∷ entries) =
    λ i. list_any-map (bytes_eq (string_bytes entry.0)) (λ one. one.now) known i && keys_are_among_view known entries i
