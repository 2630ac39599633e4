-- Reading parameters one after another.
use Rattle.std.proofs.Common.{◌≡◌, ◌∙◌, ℕ, suc, ◌-◌, ◌<◌, ◌≤◌, ◌+◌, List, [], ◌∷◌, ◌++◌, Some, None, refl, sym, ap, append_assoc, arith}
use Rattle.std.specs.Option.{option_map}
use Rattle.signature_core.specs.declared.kind.Kind.{Kind}
use Rattle.signature_core.specs.Reading.{Read, param_at, params_at, behind_mark}

-- the kinds that were read, with those before them
abbrev pub with_front : List Kind → Read (List Kind) → Read (List Kind)
with_front kinds o = option_map (λ read. (kinds ++ read.0, read.1)) o

with_front-with_front : (js ks : List Kind) (o : Read (List Kind)) → with_front js (with_front ks o) ≡ with_front (js ++ ks) o
with_front-with_front js ks None = refl
with_front-with_front js ks (Some read) = ap (λ (kinds : List Kind). Some (kinds, read.1)) (sym (append_assoc js ks read.0))

-- the three ways in which a step of `params_at` ends, and the end of all steps
params_zero : (m : ℕ) (s : List ℕ) → m ≡ 0 → params_at m s ≡ None
unfolding params_at
params_zero m s e = rw e refl

params_none : (n m : ℕ) (s : List ℕ) → m ≡ suc n → param_at s ≡ None → params_at m s ≡ None
unfolding params_at
params_none n m s e none = rw (e, none) refl

pub params_last : (n m : ℕ) (s : List ℕ) (kind : Kind) (x : List ℕ) → m ≡ suc n → param_at s ≡ Some (kind, x) → behind_mark 44 x ≡ None
    → params_at m s ≡ Some (kind ∷ [], x)
unfolding params_at
params_last n m s kind x e param stop = rw (e, param, stop) refl

pub params_more : (n m : ℕ) (s : List ℕ) (kind : Kind) (x y : List ℕ) → m ≡ suc n → param_at s ≡ Some (kind, x) → behind_mark 44 x ≡ Some y
    → params_at m s ≡ with_front (kind ∷ []) (params_at n y)
unfolding params_at
params_more n m s kind x y e param comma = rw (e, param, comma) refl

-- what a loop over the parameters keeps, where it ends and at a further step: `front` was read before s,
-- in `count` steps, and `whole` is what there is to read
pub loop_none : (front : List Kind) (count : ℕ) (s : List ℕ) (whole : Read (List Kind)) → count < 10 → with_front front (params_at (10 - count) s) ≡ whole
    → None ≡ param_at s → None ≡ whole
loop_none front count s whole below kept none =
    ap (with_front front) (sym (params_none (10 - (count + 1)) (10 - count) s (omega arith) (sym none))) ∙ kept

pub loop_last : (front new : List Kind) (count : ℕ) (s : List ℕ) (whole : Read (List Kind)) (kind : Kind) (x : List ℕ) → count < 10
    → with_front front (params_at (10 - count) s) ≡ whole → Some (kind, x) ≡ param_at s → None ≡ behind_mark 44 x → new ≡ front ++ kind ∷ []
    → Some (new, x) ≡ whole
loop_last front new count s whole kind x below kept param stop pushed =
    ap (λ (kinds : List Kind). Some (kinds, x)) pushed
    ∙ (ap (with_front front) (sym (params_last (10 - (count + 1)) (10 - count) s kind x (omega arith) (sym param) (sym stop))) ∙ kept)

pub loop_more : (front new : List Kind) (count : ℕ) (s : List ℕ) (whole : Read (List Kind)) (kind : Kind) (x y : List ℕ) → count < 10
    → with_front front (params_at (10 - count) s) ≡ whole → Some (kind, x) ≡ param_at s → Some y ≡ behind_mark 44 x → new ≡ front ++ kind ∷ []
    → with_front new (params_at (10 - (count + 1)) y) ≡ whole
loop_more front new count s whole kind x y below kept param comma pushed =
    ap (λ (kinds : List Kind). with_front kinds (params_at (10 - (count + 1)) y)) pushed
    ∙ (sym (with_front-with_front front (kind ∷ []) (params_at (10 - (count + 1)) y))
    ∙ (ap (with_front front) (sym (params_more (10 - (count + 1)) (10 - count) s kind x y (omega arith) (sym param) (sym comma))) ∙ kept))

pub loop_out : (front : List Kind) (count : ℕ) (s : List ℕ) (whole : Read (List Kind)) → 10 ≤ count → with_front front (params_at (10 - count) s) ≡ whole
    → None ≡ whole
loop_out front count s whole past kept =
    ap (with_front front) (sym (params_zero (10 - count) s (omega arith))) ∙ kept
