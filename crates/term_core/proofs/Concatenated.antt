-- What a loop over a list has read, with what is left of the list.
use Rattle.std.proofs.Common.{◌≡◌, ◌<◌, ◌+◌, ℕ, List, [], ◌∷◌, ◌++◌, length, drop, get_or, Ok, Err, refl, sym, ap, ◌∙◌, append_assoc}
use Rattle.std.proofs.lemmas.List.{drop_more}
use Rattle.plain_types.specs.Answers.{Answers}
use Rattle.plain_types.specs.declared.fault.Fault.{Fault}
use Rattle.plain_types.specs.declared.fault.Fault.TheVariants.{Refused, Memory}
use Rattle.serde_json.specs.Data.{Data, Items, item}
use Rattle.serde_json.specs.View.{view, items_view}
use Rattle.serde_json.specs.declared.value.Value.{Value}
use Rattle.term_core.specs.Json.{Read, ◌>>=◌}

abbrev pub concatenated : {A : Type 0} → List A → Read (List A) → Read (List A)
concatenated done (Ok rest) = Ok (done ++ rest)
concatenated done (Err code) = Err code

concatenated_more : {A : Type 0} (done : List A) (x : A) (rest : Read (List A))
    → concatenated (done ++ x ∷ []) rest ≡ concatenated done (rest >>= λ xs. Ok (x ∷ xs))
concatenated_more done x (Ok rest) = rw append_assoc
concatenated_more done x (Err code) = refl

-- `one` reads an item, and `all` a list of them from the front
abbrev pub ReadsAll : {A : Type 0} → (Data → Read A) → (Items → Read (List A)) → Type 0
ReadsAll one all = (json : Data) (rest : Items) → all (item json rest) ≡ (one json >>= λ x. all rest >>= λ xs. Ok (x ∷ xs))

-- the list from one of its items on
from_item : (xs : List Value) (i : ℕ) (json : Value) → i < length xs → json ≡ get_or xs i json → drop i xs ≡ json ∷ drop (i + 1) xs
from_item xs i json within is = drop_more xs i json within ∙ ap (λ x. x ∷ drop (i + 1) xs) (sym is)

module _ {A : Type 0} (one : Data → Read A) (all : Items → Read (List A)) (law : ReadsAll one all) where
  pub concatenated_step : (done : List A) (x : A) (json : Value) (xs : List Value) (i : ℕ) → i < length xs → json ≡ get_or xs i json
      → one (view json) ≡ Ok x → concatenated (done ++ x ∷ []) (all (items_view (drop (i + 1) xs))) ≡ concatenated done (all (items_view (drop i xs)))
  concatenated_step done x json xs i within is read =
      let rest = drop (i + 1) xs in
      rw (from_item xs i json within is, law (view json) (items_view rest), read) (concatenated_more done x (all (items_view rest)))

  pub concatenated_refused : (done : List A) (json : Value) (xs : List Value) (i : ℕ) (whole : Read (List A)) → i < length xs → json ≡ get_or xs i json
      → concatenated done (all (items_view (drop i xs))) ≡ whole
      → (fault : Fault) → Answers {T = A} (Err fault) (one (view json)) → Answers {T = List A} (Err fault) whole
  concatenated_refused done json xs i whole within is so_far (Refused code) read =
      sym so_far ∙ rw (from_item xs i json within is, law (view json) (items_view (drop (i + 1) xs)), read)
  concatenated_refused done json xs i whole within is so_far Memory read = tt
