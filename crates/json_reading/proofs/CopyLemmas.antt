-- Lists of scalars, as JSON.
use Rattle.std.proofs.Common.{◌≡◌, ◌≤◌, ℕ, List, [], ◌∷◌, ◌++◌, ◌∙◌, length, map, take, refl, sym, ap}
use Rattle.std.proofs.lemmas.List.{map-append, take_all}
use Rattle.serde_json.specs.View.{view}
use Rattle.serde_json.specs.declared.value.Value.{Value}
use Rattle.std.proofs.Common.{Vec, Global}
use Rattle.serde_json.proofs.Views.{view-Array}
use Rattle.serde_json.specs.declared.value.Value.TheVariants.{Array}
use Rattle.serde_json.specs.Data.{Data, array, item}
use Rattle.serde_json.specs.View.{items_of}
use Rattle.json_reading.specs.Fields.{elements_in, elements_of}
use Rattle.json_reading.specs.declared.field.Scalar.{Scalar}
use Rattle.json_reading.specs.Members.{items_in, scalar_data}

pub items_in_map : (ss : List Scalar) → items_in ss ≡ items_of (map scalar_data ss)
items_in_map [] = refl
items_in_map (s ∷ ss) = ap (item (scalar_data s)) (items_in_map ss)

pub views_snoc : (vs : List Value) (v : Value) → map view (vs ++ v ∷ []) ≡ map view vs ++ view v ∷ []
views_snoc vs v = map-append view vs (v ∷ [])

pub array_view : (v : Vec Value Global) → view (Array v) ≡ array (items_of (map view v.items))
array_view v = view-Array v

pub all_views : (vs : List Value) (ss : List Scalar) (n : ℕ) → map view vs ≡ map scalar_data (take n ss) → length ss ≤ n → items_of (map view vs) ≡ items_in ss
all_views vs ss n same all = ap items_of (same ∙ ap (map scalar_data) (take_all n ss all)) ∙ sym (items_in_map ss)

elements_in-items_of : (ds : List Data) → elements_in (items_of ds) ≡ ds
elements_in-items_of [] = refl
elements_in-items_of (d ∷ ds) = ap (λ rest. d ∷ rest) (elements_in-items_of ds)

-- the elements of an array that stands for some JSON
pub elements_of_array : (v : Vec Value Global) (json : Data) → view (Array v) ≡ json → map view v.items ≡ elements_of json
elements_of_array v json same = sym (ap elements_of (sym same ∙ array_view v) ∙ elements_in-items_of (map view v.items))
