-- What is read one element after another, as a loop comes to it.
use Rattle.std.proofs.Common.{◌≡◌, ℕ, ◌+◌, ◌<◌, List, [], ◌∷◌, ◌++◌, Ok, Err, map, drop, get_or, length, suc, refl, sym, ap, append_assoc, add-one, drop-cons}
use Rattle.std.proofs.lemmas.List.{map-append}
use Rattle.class_table.specs.Steps.{Read, ◌>>=◌, each, in_front}

in_front_push : {B : Type 0} (done : List B) (y : B) (rest : Read (List B)) → in_front (done ++ y ∷ []) rest ≡ in_front done (rest >>= λ ys. Ok (y ∷ ys))
in_front_push done y (Ok ys) = rw append_assoc refl
in_front_push done y (Err k) = refl

-- the element that the loop is at stands in front of those that it comes to next
next_in : {V : Type 0} (xs : List V) (i : ℕ) (x : V) → i < length xs → x ≡ get_or xs i x → drop i xs ≡ x ∷ drop (i + 1) xs
next_in xs i x within is = rw (add-one, drop-cons xs i x) (ap (λ z. z ∷ drop (suc i) xs) (sym is))

module _ {V A B T : Type 0} (f : A → Read B) (view : V → A) (seen : T → B) where
  -- one element more is read
  pub each_next : (xs : List V) (i : ℕ) (x : V) (done more : List T) (y : T) → i < length xs → x ≡ get_or xs i x → more ≡ done ++ y ∷ []
      → f (view x) ≡ Ok (seen y) → in_front (map seen more) (each f (map view (drop (i + 1) xs))) ≡ in_front (map seen done) (each f (map view (drop i xs)))
  each_next xs i x done more y within is longer said =
      let split : drop i xs ≡ x ∷ drop (i + 1) xs = next_in xs i x within is in
      rw (longer, map-append seen done (y ∷ []), split, said) (in_front_push (map seen done) (seen y) (each f (map view (drop (i + 1) xs))))
