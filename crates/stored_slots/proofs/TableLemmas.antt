-- A list whose elements are seen by a part of each.
use Rattle.std.proofs.Common.{◌≡◌, ℕ, zero, suc, ◌+◌, ◌<◌, ◌≤◌, List, [], ◌∷◌, Some, None, Bool, not, cond, ap, refl, sym, subst, ◌∙◌}
use Rattle.std.proofs.Common.{map, length, get_or}
use Rattle.std.specs.Prelude.{IsErrAnd, IsSomeAnd, IfOk, Option, Result, Ok, Err, slice_index_or}
use Rattle.plain_types.specs.declared.code.Code.{Code}
use Rattle.plain_types.specs.declared.fault.Fault.{Fault}
use Rattle.plain_types.specs.declared.fault.Fault.TheVariants.{Memory}
use Rattle.plain_types.specs.Answers.{RefusedBy}
use Rattle.std.specs.List.{All, position, position_or_len, slice_get}
use Rattle.std.proofs.lemmas.List.{length-map}
use Rattle.std.proofs.lemmas.List.Elements.{All-map}
use Rattle.std.proofs.lemmas.Option.{slice_get-map, slice_get_past, slice_get_read}
use Rattle.std.specs.Option.{option_map}

module _ {A B : Type 0} (part : A → B) where
  -- where a test of the parts passes first
  pub position_or_len-map : (p : B → Bool) (xs : List A) → position_or_len p (map part xs) ≡ position_or_len (λ x. p (part x)) xs
  position_or_len-map p [] = refl
  position_or_len-map p (x ∷ xs) = ap (λ n. cond (not (p (part x))) (1 + n) 0) (position_or_len-map p xs)

  pub position-map : (p : B → Bool) (xs : List A) → position (λ x. p (part x)) xs ≡ position p (map part xs)
  position-map p xs = rw (position_or_len-map p xs, length-map xs part) refl

  -- what is true of the part of every element
  pub all_parts : (P : B → Type 0) (xs : List A) → ((x : A) → P (part x)) → All P (map part xs)
  all_parts P xs each = All-map P part xs (λ k d within. each (slice_index_or xs k d))

  -- what is known of the part at an index, of the element that is read there
  pub part_at : (P : B → Type 0) (xs : List A) (i : ℕ) (x : A) → IsSomeAnd (slice_get (map part xs) i) P → x ≡ get_or xs i x
      → P (part x) × (slice_get (map part xs) i ≡ Some (part x))
  part_at P [] i x known is = absurd known
  part_at P (y ∷ ys) zero x known is = (subst (λ z. P (part z)) (sym is) known, ap (λ z. Some (part z)) (sym is))
  part_at P (y ∷ ys) (suc i) x known is = part_at P ys i x known is

  -- the part at an index where an element was read, and where there is none
  pub part_read : (xs : List A) (i : ℕ) (x : A) → i < length xs → x ≡ get_or xs i x → slice_get (map part xs) i ≡ Some (part x)
  part_read xs i x within is = slice_get-map part xs i ∙ ap (option_map part) (slice_get_read xs (length xs) i x refl within is)

  pub none_beyond : (xs : List A) (i : ℕ) → length xs ≤ i → slice_get (map part xs) i ≡ None
  none_beyond xs i beyond = slice_get-map part xs i ∙ ap (option_map part) (slice_get_past xs i beyond)

-- what follows of an answer that is there
pub if_ok : {T E : Type 0} (P Q : T → Type 0) (r : Result T E) → ((x : T) → P x → Q x) → IfOk r P → IfOk r Q
if_ok P Q (Ok x) follows holds = follows x holds
if_ok P Q (Err e) follows holds = holds

-- a call that wants memory after it has found nothing to refuse
pub refused_by_none : {T : Type 0} (refusal : Option Code) (result : Result T Fault) → IsErrAnd result (λ fault. fault ≡ Memory) → refusal ≡ None
    → RefusedBy refusal result
refused_by_none refusal (Ok value) wanted none = absurd wanted
refused_by_none {T} refusal (Err fault) wanted none = subst (λ fault. RefusedBy {T = T} refusal (Err fault)) (sym wanted) none
