-- The methods of a new class behind those of its superclass.
use Rattle.std.proofs.Common.{◌≡◌, ◌∙◌, ℕ, ◌+◌, ◌-◌, ◌<◌, ◌≤◌, Bool, true, false, not, List, ◌++◌, Option, Some, None, length, map, position, slice_get}
use Rattle.std.proofs.Common.{is_none, refl, ap, arith}
use Rattle.std.specs.Option.{option_map, option_map_or, option_or}
use Rattle.std.proofs.lemmas.List.{length-map}
use Rattle.std.proofs.lemmas.Option.{slice_get-map}
use Rattle.serde_json.specs.View.{view}
use Rattle.signature_core.specs.declared.signature.Signature.{Signature}
use Rattle.class_table.specs.declared.class.Method.{Method}
use Rattle.class_table.specs.declared.declare.Signed.{Signed}
use Rattle.class_table.specs.Declaring.{SignedMethod, is_signal_at, new_signatures, number_of}
use Rattle.class_table.specs.Lookup.{is_same, method_number, signatures}
use Rattle.class_table.specs.Signed.{signed_seen}
use Rattle.class_table.proofs.ListLemmas.{position-append, position-map, slice_get-behind, slice_get-front}

-- the number of a signature: that of a method of the superclass, or else of a new one
pub number_behind : (base : List Method) (new : List Signed) (wanted : Signature)
    → number_of base (map signed_seen new) wanted ≡ option_or (method_number wanted base)
    (option_map (λ i. length base + i) (position (λ n. is_same n.signature wanted) new))
number_behind base new wanted =
    let p : Signature → Bool = λ there. is_same there wanted in
    let before : position p (signatures base) ≡ method_number wanted base = position-map p (λ m. m.signature) base in
    let behind : position p (new_signatures (map signed_seen new)) ≡ position (λ n. is_same n.signature wanted) new =
    position-map p (λ m. m.signature) (map signed_seen new) ∙ position-map (λ m. is_same m.signature wanted) signed_seen new in
    position-append p (signatures base) (new_signatures (map signed_seen new))
    ∙ λ i. option_or (before i) (option_map (λ k. length-map base (λ m. m.signature) i + k) (behind i))

-- a method of the superclass
pub signal_before : (base : List Method) (new : List SignedMethod) (number : ℕ) → number < length base
    → is_signal_at base new number ≡ option_map_or (λ m. m.is_signal) (slice_get base number) false
signal_before base new number h =
    let news = map (λ m. is_none m.body) new in
    let within : number < length (map (λ m. m.is_signal) base) = omega (arith, length-map base (λ m. m.is_signal)) in
    let at = slice_get-front (map (λ m. m.is_signal) base) news number within ∙ slice_get-map (λ m. m.is_signal) base number in
    ap (λ o. option_map_or (λ s. s) o false) at ∙ by (slice_get base number)
  where
    by : (o : Option Method) → option_map_or (λ s. s) (option_map (λ m. m.is_signal) o) false ≡ option_map_or (λ m. m.is_signal) o false
    by None = refl
    by (Some m) = refl

none-map : {A B : Type 0} (f : A → B) (o : Option A) → is_none (option_map f o) ≡ is_none o
none-map f None = refl
none-map f (Some a) = refl

-- a new method
pub signal_behind : (base : List Method) (new : List Signed) (number : ℕ) → length base ≤ number
    → is_signal_at base (map signed_seen new) number ≡ option_map_or (λ n. is_none n.body) (slice_get new (number - length base)) false
signal_behind base new number h =
    let bases = map (λ m. m.is_signal) base in
    let news = map (λ m. is_none m.body) (map signed_seen new) in
    let k = number - length base in
    let split : number ≡ length bases + k = omega (arith, length-map base (λ m. m.is_signal)) in
    let at = ap (slice_get (bases ++ news)) split
    ∙ (slice_get-behind bases news k ∙ (slice_get-map (λ m. is_none m.body) (map signed_seen new) k
    ∙ ap (option_map (λ m. is_none m.body)) (slice_get-map signed_seen new k))) in
    ap (λ o. option_map_or (λ s. s) o false) at ∙ by (slice_get new k)
  where
    body : (n : Signed) → is_none (signed_seen n).body ≡ is_none n.body
    body n = none-map (λ json. view json.now) n.body

    by : (o : Option Signed) → option_map_or (λ s. s) (option_map (λ m. is_none m.body) (option_map signed_seen o)) false
        ≡ option_map_or (λ n. is_none n.body) o false
    by None = refl
    by (Some n) = body n

pub not_not : (b : Bool) → not (not b) ≡ b
not_not true = refl
not_not false = refl
