-- Bytes that are looked at together.
use Rattle.std.proofs.Common.{◌≡◌, ℕ, suc, ◌+◌, ◌*◌, ◌%◌, ◌^◌, ◌<◌, ◌≤◌, ltb, eqb, ◌||◌, Bool, true, false, not, cond, List, [], ◌∷◌, map, length, drop, refl}
use Rattle.std.proofs.Common.{sym, ap, ap₂, ◌∙◌, arith}
use Rattle.std.proofs.lemmas.Simd.{chunk-drop, length-chunk, mask_l-mod, leading_from_mask_l, trailing_mask_l}
use Rattle.std.proofs.lemmas.List.{length-drop, length-map}
use Rattle.std.proofs.lemmas.List.Folds.{prefix_len-append}
use Rattle.std.proofs.lemmas.List.Sums.{prefix_len-le-length}
use Rattle.std.proofs.lemmas.Bool.{eq-eqb, ne_eqb}
use Rattle.std.specs.List.{prefix_len}
use Rattle.json.specs.Run.{is_plain, is_stop}
use lib.Bits.{bit_or}
use lib.Count.{count_trailing_zeros}
use lib.Lanes.{zip2, chunk, mask_l, top}

-- a lane has all its bits or none
abbrev pub hit : ℕ → ℕ → ℕ
hit a b = cond (eqb a b) 255 0

abbrev pub below : ℕ → ℕ → ℕ
below a b = cond (ltb a b) 255 0

zip2-map : (f g : ℕ → ℕ) (xs : List ℕ) → zip2 bit_or (map f xs) (map g xs) ≡ map (λ x. bit_or (f x) (g x)) xs
zip2-map f g [] = refl
zip2-map f g (x ∷ xs) = ap (λ r. bit_or (f x) (g x) ∷ r) (zip2-map f g xs)

pub either : (f g : ℕ → ℕ) (v : List ℕ) {a b : List ℕ} → a ≡ map f v → b ≡ map g v → zip2 bit_or a b ≡ map (λ x. bit_or (f x) (g x)) v
either f g v p q = ap₂ (zip2 bit_or) p q ∙ zip2-map f g v

one_of_three : (a b c : Bool) → top 7 (bit_or (bit_or (cond a 255 0) (cond b 255 0)) (cond c 255 0)) ≡ ((a || b) || c)
one_of_three true true true = refl
one_of_three true true false = refl
one_of_three true false true = refl
one_of_three true false false = refl
one_of_three false true true = refl
one_of_three false true false = refl
one_of_three false false true = refl
one_of_three false false false = refl

abbrev lane : ℕ → ℕ
lane x = bit_or (bit_or (hit x 34) (hit x 92)) (below x 32)

tops : (v : List ℕ) → map (top 7) (map lane v) ≡ map is_stop v
tops [] = refl
tops (x ∷ xs) = ap₂ (λ a b. a ∷ b) (one_of_three (eqb x 34) (eqb x 92) (ltb x 32)) (tops xs)

pub marked : (v z : List ℕ) → length v ≤ 64 → z ≡ map lane v → mask_l (map (top 7) z) % 2 ^ 64 ≡ mask_l (map is_stop v)
marked v z short is = ap (λ l. mask_l l % 2 ^ 64) (ap (map (top 7)) is ∙ tops v) ∙ mask_l-mod (map is_stop v) 64 (omega (arith, length-map v is_stop))

split : (d : List ℕ) (i n : ℕ) → prefix_len is_plain (drop i d)
    ≡ cond (eqb (prefix_len is_plain (chunk i n d)) (length (chunk i n d))) (length (chunk i n d) + prefix_len is_plain (drop (i + n) d))
    (prefix_len is_plain (chunk i n d))
split d i n = ap (prefix_len is_plain) (chunk-drop i n d) ∙ prefix_len-append is_plain (chunk i n d) (drop (i + n) d)

-- none of the bytes is a stop
pub runs_through : (d : List ℕ) (i n : ℕ) → i + n ≤ length d → mask_l (map is_stop (chunk i n d)) ≡ 0
    → prefix_len is_plain (drop i d) ≡ n + prefix_len is_plain (drop (i + n) d)
runs_through d i n room none =
    let c = chunk i n d in
    split d i n ∙ ap (λ b. cond b (length c + prefix_len is_plain (drop (i + n) d)) (prefix_len is_plain c)) (eq-eqb _ _ (leading_from_mask_l is_stop c none))
    ∙ ap (λ k. k + prefix_len is_plain (drop (i + n) d)) (length-chunk i n d room)

none_stops : (b : Bool) (n l m : ℕ) → cond (not b) (1 + n) 0 ≡ suc l → (n ≡ l → m ≡ 0) → cond b 1 0 + 2 * m ≡ 0
none_stops true n l m all rest = absurd (omega arith)
none_stops false n l m all rest = omega (arith, rest (omega arith))

all_plain : (xs : List ℕ) → prefix_len is_plain xs ≡ length xs → mask_l (map is_stop xs) ≡ 0
all_plain [] all = refl
all_plain (x ∷ xs) all = none_stops (is_stop x) _ (length xs) _ all (all_plain xs)

-- one of them is
pub stops_within : (d : List ℕ) (i n : ℕ) → i + n ≤ length d → n ≤ 64 → 0 < mask_l (map is_stop (chunk i n d))
    → prefix_len is_plain (drop i d) ≡ count_trailing_zeros 64 (mask_l (map is_stop (chunk i n d)))
stops_within d i n room few some =
    let c = chunk i n d in
    split d i n ∙ ap (λ b. cond b (length c + prefix_len is_plain (drop (i + n) d)) (prefix_len is_plain c))
    (ne_eqb _ _ (λ (e : prefix_len is_plain c ≡ length c). omega (arith, all_plain c e)))
    ∙ sym (trailing_mask_l is_stop 64 c (omega (arith, length-chunk i n d room)) some)

pub run_within : (d : List ℕ) (i : ℕ) → i ≤ length d → i + prefix_len is_plain (drop i d) ≤ length d
run_within d i within = omega (arith, prefix_len-le-length is_plain (drop i d), length-drop i d)
