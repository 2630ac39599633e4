-- Methods and properties that are declared once.
use Rattle.std.proofs.Common.{Ordering, ◌≡◌, ◌∙◌, ℕ, zero, suc, ◌+◌, Bool, true, false, not, cond, ◌&&◌, ◌||◌, List, [], ◌∷◌, ◌++◌, Some, Ok, map, position}
use Rattle.std.proofs.Common.{bytes_eq, is_none, slice_get, take, refl, sym, ap, subst, IsTrue, Decides, Result}
use Rattle.std.specs.Cmp.Lexicographic.{pointwise, pointwise_decides, slice_cmp}
use Rattle.std.specs.List.{All, list_all, list_any, position_from}
use Rattle.std.specs.BTreeSet.{BTreeSet, Updates, contains}
use Rattle.std.specs.Ordering.{nat_cmp}
use Rattle.std.proofs.lemmas.Bool.Decides.{same_from_decides}
use Rattle.std.proofs.lemmas.Iterator.Adapters.{position_from-zero}
use Rattle.std.proofs.lemmas.List.Elements.{All-nil, All-cons, All-head, All-tail}
use Rattle.std.proofs.lemmas.List.Folds.{list_all-map, list_any-append}
use Rattle.std.proofs.lemmas.Map.Text.{is_eq-slice_cmp}
use Rattle.std.proofs.lemmas.Slice.Eq.{bytes_eq-Decides}
use Rattle.signature_core.specs.declared.signature.Signature.{Signature}
use Rattle.signature_core.specs.Kinds.{is_same_kind}
use Rattle.signature_core.specs.Reading.{IsNormal, signature_of}
use Rattle.signature_core.proofs.ForCallers.{Decides-is_same_kind, normal_text_read}
use Rattle.class_table.specs.declared.class.Method.{Method}
use Rattle.class_table.specs.declared.class.Property.{Property}
use Rattle.class_table.specs.declared.declare.Signed.{Signed}
use Rattle.class_table.specs.declared.form.PropertyForm.{PropertyForm}
use Rattle.class_table.specs.Declaring.{SignedMethod, new_names, new_signatures}
use Rattle.class_table.specs.declared.fault.Stop.{Stop}
use Rattle.class_table.specs.Faults.{Gives}
use Rattle.class_table.specs.Forms.{property_seen}
use Rattle.class_table.specs.Lookup.{are_distinct_methods, are_distinct_properties, is_distinct, is_same, method_number, names, property_number, signatures}
use Rattle.class_table.specs.Lookup.{text_of}
use Rattle.class_table.specs.Signed.{signed_seen}
use Rattle.class_table.specs.Written.{WrittenProperty}
use Rattle.class_table.proofs.ListLemmas.{list_any-map}

-- no index passes where no element does
none_from : {X : Type 0} (p : X → Bool) (at : ℕ) (xs : List X) → is_none (position_from p at xs) ≡ not (list_any p xs)
none_from p at [] = refl
none_from p at (x ∷ xs) = by (p x) (none_from p (at + 1) xs)
  where
    by : (b : Bool) → is_none (position_from p (at + 1) xs) ≡ not (list_any p xs)
        → is_none (cond b (Some at) (position_from p (at + 1) xs)) ≡ not (b || list_any p xs)
    by true rest = refl
    by false rest = rest

none-position : {X : Type 0} (p : X → Bool) (xs : List X) → is_none (position p xs) ≡ not (list_any p xs)
none-position p xs = ap is_none (position_from-zero p xs) ∙ none_from p 0 xs

module _ {X : Type 0} (same : X → X → Bool) where
  -- none of these is among those
  abbrev pub are_apart : List X → List X → Bool
  are_apart xs ys = list_all (λ y. not (list_any (λ x. same x y) xs)) ys

  all_true : (ys : List X) → list_all (λ y. true) ys ≡ true
  all_true [] = refl
  all_true (y ∷ ys) = all_true ys

  apart-cons : (x : X) (xs ys : List X) → are_apart (x ∷ xs) ys ≡ (not (list_any (same x) ys) && are_apart xs ys)
  apart-cons x xs [] = refl
  apart-cons x xs (y ∷ ys) = by (same x y) (list_any (λ z. same z y) xs) (list_any (same x) ys) (are_apart xs ys) (are_apart (x ∷ xs) ys) (apart-cons x xs ys)
    where
      by : (a b c d e : Bool) → e ≡ (not c && d) → (not (a || b) && e) ≡ (not (a || c) && (not b && d))
      by true b c d e h = refl
      by false true true d e h = refl
      by false true false d e h = refl
      by false false c d e h = h

  -- two lists, one behind the other, where the first has nothing twice
  pub distinct-append : (xs ys : List X) → IsTrue (is_distinct same xs) → is_distinct same (xs ++ ys) ≡ (are_apart xs ys && is_distinct same ys)
  distinct-append [] ys h = rw (all_true ys)
  distinct-append (x ∷ xs) ys h = by (list_any (same x) xs) (is_distinct same xs) refl h (list_any-append (same x) xs ys) (distinct-append xs ys)
      (apart-cons x xs ys)
    where
      swap : (a b c : Bool) → (not a && (b && c)) ≡ ((not a && b) && c)
      swap true b c = refl
      swap false b c = refl

      by : (a b : Bool) → is_distinct same xs ≡ b → IsTrue (not a && b) → list_any (same x) (xs ++ ys) ≡ (a || list_any (same x) ys)
          → (IsTrue (is_distinct same xs) → is_distinct same (xs ++ ys) ≡ (are_apart xs ys && is_distinct same ys))
          → are_apart (x ∷ xs) ys ≡ (not (list_any (same x) ys) && are_apart xs ys)
          → (not (list_any (same x) (xs ++ ys)) && is_distinct same (xs ++ ys)) ≡ (are_apart (x ∷ xs) ys && is_distinct same ys)
      by true b e h any rest apart = absurd (cc)
      by false false e h any rest apart = absurd (cc)
      by false true e h any rest apart = rw (any, rest e, apart) (swap (list_any (same x) ys) (are_apart xs ys) (is_distinct same ys))

list_all-same : {A : Type 0} (p q : A → Bool) → ((x : A) → p x ≡ q x) → (xs : List A) → list_all p xs ≡ list_all q xs
list_all-same p q e [] = refl
list_all-same p q e (x ∷ xs) = λ i. e x i && list_all-same p q e xs i

-- new ones behind those of a superclass, which are different from each other
module _ {X B M N : Type 0} (same : X → X → Bool) (of : B → X) (part : M → X) (seen : N → M) (base : List B) (new : List N) where
  new_once : IsTrue (is_distinct same (map of base)) → is_distinct same (map of base ++ map part (map seen new))
      ≡ (list_all (λ n. is_none (position (λ b. same (of b) (part (seen n))) base)) new && is_distinct same (map part (map seen new)))
  new_once once =
      let apart : are_apart same (map of base) (map part (map seen new)) ≡ list_all (λ n. is_none (position (λ b. same (of b) (part (seen n))) base)) new =
      list_all-map _ part (map seen new) ∙ (list_all-map _ seen new ∙ list_all-same _ _
      (λ n. ap not (list_any-map (λ x. same x (part (seen n))) of base) ∙ sym (none-position (λ b. same (of b) (part (seen n))) base)) new) in
      distinct-append same (map of base) (map part (map seen new)) once ∙ ap (λ a. a && is_distinct same (map part (map seen new))) apart

pub new_methods_once : (base : List Method) (new : List Signed) → IsTrue (are_distinct_methods (signatures base))
    → are_distinct_methods (signatures base ++ new_signatures (map signed_seen new))
    ≡ (list_all (λ n. is_none (method_number n.signature base)) new && are_distinct_methods (new_signatures (map signed_seen new)))
new_methods_once = new_once is_same (λ (m : Method). m.signature) (λ (m : SignedMethod). m.signature) signed_seen

pub new_properties_once : (base : List Property) (new : List PropertyForm) → IsTrue (are_distinct_properties (names base))
    → are_distinct_properties (names base ++ new_names (map property_seen new))
    ≡ (list_all (λ n. is_none (property_number n.name.now base)) new && are_distinct_properties (new_names (map property_seen new)))
new_properties_once = new_once bytes_eq (λ (p : Property). p.name) (λ (p : WrittenProperty). p.name) property_seen

-- signatures by their normal texts

pub Decides-is_same : (a b : Signature) → Decides (is_same a b) (a ≡ b)
Decides-is_same a b = (told (bytes_eq a.name b.name) (pointwise is_same_kind a.kinds b.kinds) refl refl, λ e. subst Same e self)
  where
    Same : Signature → Type 0
    Same s = is_same a s ≡ true

    self : is_same a a ≡ true
    self = λ i. (bytes_eq-Decides a.name a.name).1 refl i && (pointwise_decides Decides-is_same_kind a.kinds a.kinds).1 refl i

    told : (p q : Bool) → bytes_eq a.name b.name ≡ p → pointwise is_same_kind a.kinds b.kinds ≡ q → (p && q) ≡ true → a ≡ b
    told true true n k e = λ i. record { name = (bytes_eq-Decides a.name b.name).0 n i; kinds = (pointwise_decides Decides-is_same_kind a.kinds b.kinds).0 k i }
    told true false n k e = absurd (cc)
    told false q n k e = absurd (cc)

Decides-text : (a b : Signature) → IsNormal a → IsNormal b → Decides (bytes_eq (text_of a) (text_of b)) (a ≡ b)
Decides-text a b m n = (told, λ e. (bytes_eq-Decides (text_of a) (text_of b)).1 (ap text_of e))
  where
    told : bytes_eq (text_of a) (text_of b) ≡ true → a ≡ b
    told e =
        let texts : text_of a ≡ text_of b = (bytes_eq-Decides (text_of a) (text_of b)).0 e in
        let read : Some a ≡ Some b = sym (normal_text_read a m) ∙ (ap signature_of texts ∙ normal_text_read b n) in
        cc

any_text : (a : Signature) (ss : List Signature) → IsNormal a → All IsNormal ss → list_any (is_same a) ss ≡ list_any (bytes_eq (text_of a)) (map text_of ss)
any_text a [] m all = refl
any_text a (s ∷ ss) m all =
    let n = All-head IsNormal s ss all in
    λ i. same_from_decides (is_same a s) (bytes_eq (text_of a) (text_of s)) (Decides-is_same a s) (Decides-text a s m n) i
    || any_text a ss m (All-tail IsNormal s ss all) i

distinct_texts : (ss : List Signature) → All IsNormal ss → are_distinct_methods ss ≡ is_distinct bytes_eq (map text_of ss)
distinct_texts [] all = refl
distinct_texts (s ∷ ss) all = λ i. not (any_text s ss (All-head IsNormal s ss all) (All-tail IsNormal s ss all) i)
    && distinct_texts ss (All-tail IsNormal s ss all) i

all_normal : (new : List Signed) → All (λ n. IsNormal n.signature) new → All IsNormal (new_signatures (map signed_seen new))
all_normal [] all = All-nil IsNormal
all_normal (n ∷ new) all = All-cons IsNormal n.signature (new_signatures (map signed_seen new)) (All-head (λ m. IsNormal m.signature) n new all)
    (all_normal new (All-tail (λ m. IsNormal m.signature) n new all))

texts_of : (new : List Signed) → map text_of (new_signatures (map signed_seen new)) ≡ map (λ n. text_of n.signature) new
texts_of [] = refl
texts_of (n ∷ new) = ap (λ rest. text_of n.signature ∷ rest) (texts_of new)

pub methods_by_text : (new : List Signed) → All (λ n. IsNormal n.signature) new
    → are_distinct_methods (new_signatures (map signed_seen new)) ≡ is_distinct bytes_eq (map (λ n. text_of n.signature) new)
methods_by_text new all = distinct_texts (new_signatures (map signed_seen new)) (all_normal new all) ∙ ap (is_distinct bytes_eq) (texts_of new)

names_of : (new : List PropertyForm) → new_names (map property_seen new) ≡ map (λ n. n.name.now) new
names_of [] = refl
names_of (n ∷ new) = ap (λ rest. n.name.now ∷ rest) (names_of new)

pub properties_by_text : (new : List PropertyForm) → are_distinct_properties (new_names (map property_seen new))
    ≡ is_distinct bytes_eq (map (λ n. n.name.now) new)
properties_by_text new = ap (is_distinct bytes_eq) (names_of new)

-- one text after another

turned : (x y : List ℕ) → bytes_eq x y ≡ bytes_eq y x
turned x y = same_from_decides (bytes_eq x y) (bytes_eq y x) (bytes_eq-Decides x y)
    (λ e. sym ((bytes_eq-Decides y x).0 e), λ e. (bytes_eq-Decides y x).1 (sym e))

any_turned : (text : List ℕ) (done : List (List ℕ)) → list_any (λ x. bytes_eq x text) done ≡ list_any (bytes_eq text) done
any_turned text [] = refl
any_turned text (x ∷ xs) = λ i. turned x text i || any_turned text xs i

found_again : (done : List (List ℕ)) (text : List ℕ) (rest : List (List ℕ)) → IsTrue (is_distinct bytes_eq done) → list_any (bytes_eq text) done ≡ true
    → is_distinct bytes_eq (done ++ text ∷ rest) ≡ false
found_again done text rest once found = rw (distinct-append bytes_eq done (text ∷ rest) once, any_turned text done, found)

pub once_more : (done : List (List ℕ)) (text : List ℕ) → IsTrue (is_distinct bytes_eq done) → list_any (bytes_eq text) done ≡ false
    → IsTrue (is_distinct bytes_eq (done ++ text ∷ []))
once_more done text once new = rw (distinct-append bytes_eq done (text ∷ []) once, any_turned text done, new)

-- one text after another, as a set keeps them

module _ {K : Type 0} (bytes : K → List ℕ) where
  abbrev pub in_order : K → K → Ordering
  in_order x y = slice_cmp nat_cmp (bytes x) (bytes y)

  -- the set has these texts and no other
  abbrev pub HasSeen : BTreeSet K → List (List ℕ) → Type 0
  HasSeen seen done = (key : K) → contains in_order seen key ≡ list_any (bytes_eq (bytes key)) done

  pub seen_more : (old new : BTreeSet K) (done : List (List ℕ)) (key : K) → HasSeen old done → Updates in_order old new key true
      → HasSeen new (done ++ bytes key ∷ [])
  seen_more old new done key seen updates other =
      updates.0 other ∙ ((λ i. cond ((is_eq-slice_cmp (bytes key) (bytes other) ∙ turned (bytes key) (bytes other)) i) true (seen other i))
      ∙ (by (bytes_eq (bytes other) (bytes key)) (list_any (bytes_eq (bytes other)) done)
      ∙ sym (list_any-append (bytes_eq (bytes other)) done (bytes key ∷ []))))
    where
      by : (b c : Bool) → cond b true c ≡ (c || (b || false))
      by true true = refl
      by true false = refl
      by false true = refl
      by false false = refl

split : {X : Type 0} (xs : List X) (i : ℕ) (x : X) → Some x ≡ slice_get xs i → (rest : List X) × (xs ≡ take i xs ++ x ∷ rest)
split [] i x e = absurd (cc)
split (z ∷ zs) zero x e = let same : z ≡ x = cc in (zs, λ j. same j ∷ zs)
split (z ∷ zs) (suc i) x e = let behind = split zs i x e in (behind.0, λ j. z ∷ behind.1 j)

pub seen_twice : (texts : List (List ℕ)) (i : ℕ) (text : List ℕ) → Some text ≡ slice_get texts i → IsTrue (is_distinct bytes_eq (take i texts))
    → list_any (bytes_eq text) (take i texts) ≡ true → is_distinct bytes_eq texts ≡ false
seen_twice texts i text at once found =
    let whole = split texts i text at in
    ap (is_distinct bytes_eq) whole.1 ∙ found_again (take i texts) text whole.0 once found

-- what is declared once, by the texts that a reading gives, where nothing is inherited
pub once_by_texts : (whole inherited new : Bool) (wanted given texts : List (List ℕ)) (result : Result Bool Stop) → whole ≡ inherited && new
    → inherited ≡ true → new ≡ is_distinct bytes_eq wanted → Gives (λ list. list) (Ok given) (Ok wanted) → given ≡ texts
    → Gives (λ once. once) result (Ok (is_distinct bytes_eq texts)) → Gives (λ once. once) result (Ok whole)
once_by_texts whole inherited new wanted given texts result split none once reading same gives =
    let listed : wanted ≡ texts = cc in
    subst (λ (b : Bool). Gives (λ once. once) result (Ok b)) (sym (split ∙ ap (λ b. b && new) none ∙ once ∙ ap (is_distinct bytes_eq) listed)) gives
