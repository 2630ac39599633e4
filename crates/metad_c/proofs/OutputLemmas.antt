-- Texts that are said one after another.
use Rattle.std.proofs.Common.{◌≡◌, ℕ, ◌<◌, ◌+◌, List, [], ◌∷◌, ◌++◌, length, take, get_or, sym, ap, ◌∙◌, append_assoc, append-nil}
use Rattle.std.specs.List.{flat_map}
use Rattle.std.proofs.lemmas.Grind.{flat_map-append}
use Rattle.std.proofs.lemmas.List.{take_more}

module _ {X : Type 0} (f : X → List ℕ) (xs : List X) (i : ℕ) where
  next : (d : X) (text : List ℕ) → i < length xs → text ≡ f (get_or xs i d) → flat_map f (take (i + 1) xs) ≡ flat_map f (take i xs) ++ text
  next d text within is =
      ap (flat_map f) (take_more xs i d within) ∙ flat_map-append f (take i xs) (get_or xs i d ∷ [])
      ∙ ap (λ l. flat_map f (take i xs) ++ l) (append-nil (f (get_or xs i d)) ∙ sym is)

  -- the text of one more element follows those of the elements before it
  pub said_next : (before between after : List ℕ) (d : X) (text : List ℕ) → i < length xs → text ≡ f (get_or xs i d)
      → between ≡ before ++ flat_map f (take i xs) → after ≡ between ++ text → after ≡ before ++ flat_map f (take (i + 1) xs)
  said_next before between after d text within is so_far said =
      said ∙ ap (λ l. l ++ text) so_far ∙ append_assoc before (flat_map f (take i xs)) text ∙ ap (λ l. before ++ l) (sym (next d text within is))
