-- Entries that marks keep, and the places of the marks.
use Rattle.std.proofs.Common.{◌≡◌, ℕ, ◌+◌, ◌<◌, ◌≤◌, Bool, true, false, List, [], ◌∷◌, ◌++◌, length, map, refl, sym, ap, ap₂, ◌∙◌, arith, append_assoc}
use Rattle.std.proofs.Common.{length-append, get_or}
use Rattle.std.specs.Prelude.{All}
use Rattle.std.proofs.lemmas.List.{get_or_at}
use Rattle.std.proofs.lemmas.List.Elements.{All-nil, All-cons, All-head, All-tail}
use Rattle.isolation.specs.Slice.{kept}
use Rattle.server_world.specs.Noting.{marked_from}

-- what stands at the marked places is what the marks keep
pub marked-kept : {A B : Type 0} (f : A → B) (d : A) (marks : List Bool) (front xs : List A) → length marks ≤ length xs →
    map (λ i. f (get_or (front ++ xs) i d)) (marked_from (length front) marks) ≡ kept marks (map f xs)
marked-kept f d [] front xs within = refl
marked-kept f d (mark ∷ marks) front [] within = absurd (omega arith)
marked-kept {A = A} f d (mark ∷ marks) front (x ∷ xs) within =
    let count : length front + 1 ≡ length (front ++ x ∷ []) = sym (length-append front (x ∷ [])) in
    let same : front ++ x ∷ xs ≡ (front ++ x ∷ []) ++ xs = sym (append_assoc front (x ∷ []) xs) in
    let rest : map (λ i. f (get_or (front ++ x ∷ xs) i d)) (marked_from (length front + 1) marks) ≡ kept marks (map f xs) =
    ap₂ (λ (first : ℕ) (l : List A). map (λ i. f (get_or l i d)) (marked_from first marks)) count same
    ∙ marked-kept f d marks (front ++ x ∷ []) xs (omega arith) in
    by mark (ap f (get_or_at front x xs d (length front) refl)) rest
  where
    by : (mark : Bool) → f (get_or (front ++ x ∷ xs) (length front) d) ≡ f x
        → map (λ i. f (get_or (front ++ x ∷ xs) i d)) (marked_from (length front + 1) marks) ≡ kept marks (map f xs) →
        map (λ i. f (get_or (front ++ x ∷ xs) i d)) (marked_from (length front) (mark ∷ marks)) ≡ kept (mark ∷ marks) (map f (x ∷ xs))
    by true here rest = ap₂ (λ y ys. y ∷ ys) here rest
    by false here rest = rest

-- and there are as many of these places as marks
pub marked-within : (first most : ℕ) (marks : List Bool) → first + length marks ≤ most → All (λ place. place < most) (marked_from first marks)
marked-within first most [] within = All-nil (λ place. place < most)
marked-within first most (true ∷ marks) within = All-cons (λ place. place < most) first (marked_from (first + 1) marks) (omega arith)
    (marked-within (first + 1) most marks (omega arith))
marked-within first most (false ∷ marks) within = marked-within (first + 1) most marks (omega arith)

-- what holds of all entries holds of those that are kept
pub All-kept : {A : Type 0} (P : A → Type 0) (marks : List Bool) (xs : List A) → All P xs → All P (kept marks xs)
All-kept P [] xs all = All-nil P
All-kept P (mark ∷ marks) [] all = All-nil P
All-kept P (true ∷ marks) (x ∷ xs) all = All-cons P x (kept marks xs) (All-head P x xs all) (All-kept P marks xs (All-tail P x xs all))
All-kept P (false ∷ marks) (x ∷ xs) all = All-kept P marks xs (All-tail P x xs all)
