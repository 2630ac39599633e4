-- A list as far as it passes a test, and at most so many of it.
use Rattle.std.proofs.Common.{◌≡◌, ◌∙◌, ℕ, zero, suc, ◌<◌, ◌≤◌, Bool, true, false, cond, List, [], ◌∷◌, ◌++◌, length, map, filter, take, drop, refl}
use Rattle.std.proofs.Common.{sym, ap, arith, append_assoc, append-nil}
use Rattle.std.proofs.lemmas.List.{drop_all, length-append, take-map}

take_first : {X : Type 0} (n : ℕ) (xs ys : List X) → length xs ≡ n → take n (xs ++ ys) ≡ xs
take_first zero [] ys h = refl
take_first zero (x ∷ xs) ys h = absurd (omega (arith, h))
take_first (suc n) [] ys h = absurd (omega (arith, h))
take_first (suc n) (x ∷ xs) ys h = ap (λ rest. x ∷ rest) (take_first n xs ys (omega (arith, h)))

take_short : {X : Type 0} (n : ℕ) (xs : List X) → length xs ≤ n → take n xs ≡ xs
take_short zero [] h = refl
take_short zero (x ∷ xs) h = absurd (omega (arith, h))
take_short (suc n) [] h = refl
take_short (suc n) (x ∷ xs) h = ap (λ rest. x ∷ rest) (take_short n xs (omega (arith, h)))

module _ {A B : Type 0} (tell : A → B) where
  one_first : (passes : Bool) (row : A) (xs : List A) → map tell (cond passes (row ∷ []) []) ++ map tell xs ≡ map tell (cond passes (row ∷ xs) xs)
  one_first true row xs = refl
  one_first false row xs = refl

  one_at_most : (passes : Bool) (row : A) → length (map tell (cond passes (row ∷ []) [])) ≤ 1
  one_at_most true row = omega arith
  one_at_most false row = omega arith

-- what is listed so far, at most so many, and then what is left
pub record ListedTo {A B : Type 0} (tell : A → B) (test : A → Bool) (rows : List A) (n at : ℕ) (listed : List B) : Type 0 where
  pub all : listed ++ map tell (filter test (drop at rows)) ≡ map tell (filter test rows)
  pub few : length listed ≤ n

module _ {A B : Type 0} {tell : A → B} {test : A → Bool} {rows : List A} {n : ℕ} {listed : List B} where
  -- at first nothing is
  pub listed_none : listed ≡ [] → ListedTo tell test rows n 0 listed
  listed_none none = record { all = ap (λ l. l ++ map tell (filter test rows)) none; few = omega (arith, ap length none) }

  module _ {at : ℕ} (to : ListedTo tell test rows n at listed) where
    -- one row on
    pub listed_on : {next : ℕ} {more : List B} (row : A) → drop at rows ≡ row ∷ drop next rows → more ≡ listed ++ map tell (filter test (row ∷ []))
        → length listed < n → ListedTo tell test rows n next more
    listed_on {next} {more} row first added room =
        let one = map tell (filter test (row ∷ [])) in
        let left = filter test (drop next rows) in
        record {
          all = ap (λ l. l ++ map tell left) added
              ∙ append_assoc listed one (map tell left)
              ∙ ap (λ l. listed ++ l) (one_first tell (test row) row left ∙ ap (λ left. map tell (filter test left)) (sym first))
              ∙ to.all;
          few = omega (arith, ap length added, length-append listed one, one_at_most tell (test row) row);
        }

    -- as many as may be
    pub listed_full : length listed ≡ n → listed ≡ map tell (take n (filter test rows))
    listed_full many = sym (take_first n listed (map tell (filter test (drop at rows))) many) ∙ ap (take n) to.all ∙ take-map tell n (filter test rows)

    -- all of them
    pub listed_whole : length rows ≤ at → listed ≡ map tell (take n (filter test rows))
    listed_whole end =
        sym (take_short n listed to.few)
        ∙ ap (take n) (sym (append-nil listed) ∙ ap (λ left. listed ++ map tell (filter test left)) (sym (drop_all at rows end)) ∙ to.all)
        ∙ take-map tell n (filter test rows)
