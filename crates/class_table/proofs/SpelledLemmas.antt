-- The number of a method that is found by its text.
use Rattle.std.proofs.Common.{◌≡◌, ◌∙◌, ℕ, zero, suc, ◌+◌, Bool, true, false, not, List, [], ◌∷◌, ◌++◌, Option, Some, None, bytes_eq, position}
use Rattle.std.proofs.Common.{slice_get, length, refl, sym, ap, subst, arith, IsTrue}
use Rattle.std.specs.List.{All, list_any, position_from}
use Rattle.std.specs.Option.{option_map, option_map_or, option_or}
use Rattle.std.proofs.lemmas.Bool.{and_parts, not-true, or_parts}
use Rattle.std.proofs.lemmas.Iterator.Adapters.{position_from-zero}
use Rattle.std.proofs.lemmas.Option.{get_or_from_slice_get, slice_get_within}
use Rattle.std.proofs.lemmas.Slice.Eq.{bytes_eq-Decides}
use Rattle.signature_core.specs.declared.signature.Signature.{Signature}
use Rattle.signature_core.specs.Reading.{IsNormal, signature_of}
use Rattle.signature_core.proofs.ForCallers.{normal_text_read}
use Rattle.class_table.specs.declared.class.Class.{Class}
use Rattle.class_table.specs.declared.class.Method.{Method}
use Rattle.class_table.specs.Lookup.{are_distinct_methods, inherited, is_same, method_number, methods, signatures}
use Rattle.class_table.specs.Sound.{IsClassAt, IsMethod, IsTable}
use Rattle.class_table.specs.Spelled.{IsOwnText, IsSpelled}
use Rattle.class_table.proofs.ListLemmas.{past_end, position-append, position_passes, slice_get-behind}
use Rattle.class_table.proofs.OnceLemmas.{Decides-is_same}
use Rattle.class_table.proofs.TableLemmas.{of_class-none}

-- where none of the signatures passes, that of a method among them does not
none_at : (test : Signature → Bool) (ms : List Method) (n : ℕ) (m : Method) → list_any test (signatures ms) ≡ false → slice_get ms n ≡ Some m
    → test m.signature ≡ false
none_at test [] n m none found = absurd (cc)
none_at test (x ∷ xs) zero m none found =
    let same : x ≡ m = cc in
    ap (λ y. test y.signature) (sym same) ∙ (or_parts (test x.signature) (list_any test (signatures xs)) none).0
none_at test (x ∷ xs) (suc n) m none found = none_at test xs n m (or_parts (test x.signature) (list_any test (signatures xs)) none).1 found

-- among methods that are declared once, the first with the signature of one of them is that one
only_from : (at : ℕ) (ms : List Method) (n : ℕ) (m : Method) → IsTrue (are_distinct_methods (signatures ms)) → slice_get ms n ≡ Some m
    → position_from (λ method. is_same method.signature m.signature) at ms ≡ Some (at + n)
only_from at [] n m once found = absurd (cc)
only_from at (x ∷ xs) zero m once found =
    let is : x ≡ m = cc in
    let same : is_same x.signature m.signature ≡ true = (Decides-is_same x.signature m.signature).1 (ap (λ y. y.signature) is) in
    let here : at ≡ at + 0 = omega arith in
    rw same (ap Some here)
only_from at (x ∷ xs) (suc n) m once found =
    let apart = and_parts (not (list_any (is_same x.signature) (signatures xs))) (are_distinct_methods (signatures xs)) once in
    let other : is_same x.signature m.signature ≡ false = none_at (is_same x.signature) xs n m (not-true _ apart.0) found in
    let moved : (at + 1) + n ≡ at + suc n = omega arith in
    rw other (only_from (at + 1) xs n m apart.1 found ∙ ap Some moved)

only_one : (ms : List Method) (n : ℕ) (m : Method) → IsTrue (are_distinct_methods (signatures ms)) → slice_get ms n ≡ Some m
    → method_number m.signature ms ≡ Some n
only_one ms n m once found =
    let first : 0 + n ≡ n = omega arith in
    position_from-zero (λ method. is_same method.signature m.signature) ms ∙ only_from 0 ms n m once found ∙ ap Some first

-- an element stays where it is when more stand behind it
still : {X : Type 0} (xs ys : List X) (n : ℕ) (x : X) → slice_get xs n ≡ Some x → slice_get (xs ++ ys) n ≡ Some x
still [] ys n x found = absurd (cc)
still (z ∷ zs) ys zero x found = found
still (z ∷ zs) ys (suc n) x found = still zs ys n x found

each_at : {X : Type 0} (P : X → Type 0) (xs : List X) (n : ℕ) (x : X) → All P xs → slice_get xs n ≡ Some x → P x
each_at P xs n x all found = subst P (get_or_from_slice_get xs n x x found) (all n x (slice_get_within xs n x found))

-- no class of a table has a method twice
once_in : (classes : List Class) (class : ℕ) → IsTable classes → IsTrue (are_distinct_methods (signatures (methods classes class)))
once_in classes class table = by (slice_get classes class) refl
  where
    by : (row : Option Class) → slice_get classes class ≡ row → IsTrue (are_distinct_methods (signatures (methods classes class)))
    by None e = rw (of_class-none (λ index class. class.methods) classes class (past_end classes class e)) refl
    by (Some row) e = let has = table.each class row e in rw has.its_methods has.methods_once

-- a method of a text that a class or one of its superclasses declares
pub spelled_in : (classes : List Class) (class index : ℕ) (row : Class) (more : List Method) (text : List ℕ) (number : ℕ) → IsTable classes
    → IsClassAt classes index row → methods classes class ≡ methods classes index ++ more → IsOwnText text row number
    → IsSpelled text (methods classes class) number
spelled_in classes class index row more text number table has front own =
    let base = inherited (methods classes) row.superclass in
    let behind : slice_get (base ++ row.methods) (length base + own.at) ≡ Some own.method = slice_get-behind base row.methods own.at ∙ own.found in
    let there : slice_get ((base ++ row.methods) ++ more) (length base + own.at) ≡ Some own.method = still (base ++ row.methods) more _ own.method behind in
    let whole : methods classes class ≡ (base ++ row.methods) ++ more = front ∙ ap (λ l. l ++ more) has.its_methods in
    let at : number ≡ length base + own.at = own.its_number ∙ ap (λ offset. offset + own.at) has.method_offset in
    let found : slice_get (methods classes class) number ≡ Some own.method = rw (whole, at) there in
    let sound = each_at IsMethod row.methods own.at own.method has.each_method own.found in
    let signature = own.method.signature in (
      signature,
      ap signature_of (sym own.its_text ∙ sound.text) ∙ normal_text_read signature own.normal,
      only_one (methods classes class) number own.method (once_in classes class table) found,
    )

-- the first method of a text has that text
pub own_text : (text : List ℕ) (class : Class) (index number : ℕ) (method : Method) → position (λ method. bytes_eq method.text text) class.methods ≡ Some index
    → slice_get class.methods index ≡ Some method → number ≡ class.method_offset + index → IsNormal method.signature → IsOwnText text class number
own_text text class index number method first found at normal =
    let passes : option_map_or (λ (method : Method). bytes_eq method.text text) (slice_get class.methods index) false ≡ true =
    position_passes (λ (method : Method). bytes_eq method.text text) class.methods index first in
    let same : bytes_eq method.text text ≡ true = ap (λ (found : Option Method). option_map_or (λ (method : Method). bytes_eq method.text text) found false)
    (sym found) ∙ passes in
    record { at = index; method = method; its_number = at; found = found; its_text = (bytes_eq-Decides method.text text).0 same; normal = normal }

-- a method that a class declares itself is the only one with its signature
pub own_only : (classes : List Class) (index : ℕ) (row : Class) (signature : Signature) (number : ℕ) → IsTable classes → IsClassAt classes index row
    → Some number ≡ option_map (λ at. row.method_offset + at) (method_number signature row.methods)
    → method_number signature (methods classes index) ≡ Some number
own_only classes index row signature number table has own = by (method_number signature row.methods) refl own
  where
    base : List Method
    base = inherited (methods classes) row.superclass

    same_as : Method → Bool
    same_as method = is_same method.signature signature

    at_place : (at : ℕ) (found : Option Method) → slice_get row.methods at ≡ found → option_map_or same_as found false ≡ true
        → Some number ≡ Some (row.method_offset + at) → method_number signature (methods classes index) ≡ Some number
    at_place at None found passes is = absurd (cc)
    at_place at (Some method) found passes is =
        let same : method.signature ≡ signature = (Decides-is_same method.signature signature).0 passes in
        let there : slice_get (base ++ row.methods) (length base + at) ≡ Some method = slice_get-behind base row.methods at ∙ found in
        let moved : length base + at ≡ number = ap (λ offset. offset + at) (sym has.method_offset) ∙ sym (cc) in
        subst (λ signature. method_number signature (methods classes index) ≡ Some number) same
        (only_one (methods classes index) number method (once_in classes index table) (rw (has.its_methods, ← moved) there))

    by : (own : Option ℕ) → method_number signature row.methods ≡ own → Some number ≡ option_map (λ at. row.method_offset + at) own
        → method_number signature (methods classes index) ≡ Some number
    by None first is = absurd (cc)
    by (Some at) first is = at_place at (slice_get row.methods at) refl (position_passes same_as row.methods at first) is

-- and one that it does not declare is one of its superclass
pub own_none : (classes : List Class) (index : ℕ) (row : Class) (signature : Signature) → IsClassAt classes index row
    → None ≡ option_map (λ at. row.method_offset + at) (method_number signature row.methods)
    → method_number signature (inherited (methods classes) row.superclass) ≡ method_number signature (methods classes index)
own_none classes index row signature has none =
    let base = inherited (methods classes) row.superclass in
    let same_as : Method → Bool = λ method. is_same method.signature signature in
    let both_lists = position-append same_as base row.methods in
    sym (ap (position same_as) has.its_methods ∙ both_lists ∙ by (position same_as base) (position same_as row.methods) none)
  where
    by : (above own : Option ℕ) → ◌≡◌ {A = Option ℕ} None (option_map (λ at. row.method_offset + at) own)
        → option_or above (option_map (λ at. length (inherited (methods classes) row.superclass) + at) own) ≡ above
    by above (Some at) e = absurd (cc)
    by None None e = refl
    by (Some at) None e = refl
