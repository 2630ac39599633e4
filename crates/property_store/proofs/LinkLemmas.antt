-- What link each property has where rows change.
use Rattle.std.proofs.lemmas.Option.{slice_get_past, slice_get_within}
use Rattle.std.proofs.Common.{◌≡◌, ◌≢◌, ◌∙◌, ℕ, zero, suc, ◌+◌, ◌<◌, ◌≤◌, ◌==◌, nat_lt, not, Bool, true, false, cond, List, [], ◌∷◌, ◌++◌, Option, Some, None}
use Rattle.std.proofs.Common.{filter, find, map, length, set, refl, sym, ap, subst, arith, ⊎_elim, rules}
use Rattle.std.proofs.lemmas.Grind.{common_steps}
use Rattle.std.proofs.lemmas.Bool.Decides.{nat_tests}
use Rattle.std.specs.List.{All, slice_get}
use Rattle.std.specs.Prelude.{option_and_then}
use Rattle.std.specs.Option.{IsSome, option_map}
use Rattle.std.proofs.lemmas.Bool.{and_from, both_ways, cases_Bool, cases_eq, cases_lt, eq-eqb, eqb-true, le-ltb, lt-ltb, ne_eqb}
use Rattle.shared_rows.specs.Rows.{Keyed, inserted, key_of, with_row, without}
use Rattle.property_store.specs.declared.link.Head.{Head}
use Rattle.property_store.specs.declared.link.Head.TheVariants as head
use Rattle.property_store.specs.declared.link.Link.{Link}
use Rattle.property_store.specs.declared.link.Link.TheVariants as link
use Rattle.property_store.specs.declared.property.Property.{Property}
use Rattle.property_store.specs.declared.row.Row.{Row}
use Rattle.property_store.specs.Property.{is_property}
use Rattle.property_store.specs.Chain.{AreLinked, AreNew, IsLinking, IsMarking, first_of, is_all, is_linked, link_to}
use Rattle.property_store.specs.Inside.{link_at, properties_in, row_of, unlinked, without_link}
use Rattle.property_store.proofs.ListLemmas.{filter_at, found, map_at, mapped}
use Rattle.property_store.proofs.StoreLemmas.{IsRowOf, number}
use Rattle.property_store.proofs.ChainLemmas.{linked_kept, linked_more, linked_same}

-- one link of a list is another
pub link_set : {X : Type 0} (links : List X) (n : ℕ) (x : X) → n < length links → slice_get (set links n x) n ≡ Some x
link_set [] n x within = absurd (omega arith)
link_set (y ∷ links) zero x within = refl
link_set (y ∷ links) (suc n) x within = link_set links n x (omega arith)

pub link_other : {X : Type 0} (links : List X) (n m : ℕ) (x : X) → (m ≡ n → ⊥) → slice_get (set links n x) m ≡ slice_get links m
link_other [] n m x differ = refl
link_other (y ∷ links) zero zero x differ = absurd (differ refl)
link_other (y ∷ links) zero (suc m) x differ = refl
link_other (y ∷ links) (suc n) zero x differ = refl
link_other (y ∷ links) (suc n) (suc m) x differ = link_other links n m x (λ same. differ (ap suc same))

pub link_stands : {X : Type 0} (links : List X) (n : ℕ) → IsSome (slice_get links n) → n < length links
link_stands [] n is = absurd (both_ways false refl is)
link_stands (y ∷ links) zero is = omega arith
link_stands (y ∷ links) (suc n) is = let less = link_stands links n is in omega arith

pub link_back : {X : Type 0} (links : List X) (n : ℕ) (x : X) → slice_get links n ≡ Some x → set links n x ≡ links
link_back [] n x is = refl
link_back (y ∷ links) zero x is = let same : y ≡ x = cc in ap (λ z. z ∷ links) (sym same)
link_back (y ∷ links) (suc n) x is = ap (λ zs. y ∷ zs) (link_back links n x is)

-- what is done to a link is done to it in a list
pub marking : (first : Head) (links : List Link) (n : ℕ) (old new : Link) (linked : Bool) → slice_get links n ≡ Some old → IsLinking first old new linked
    → IsMarking first n links (set links n new) linked
marking first links n old new true is linking = (is ∙ ap Some linking.0, linking.1, ap (set links n) linking.2)
marking first links n old new false is linking = search (rules, link_back)

pub marking_as : (first : Head) (n : ℕ) {old old' new new' : List Link} {linked linked' : Bool} → old ≡ old' → new' ≡ new → linked' ≡ linked
    → IsMarking first n old new linked → IsMarking first n old' new' linked'
marking_as first n {old} {old'} {new} {new'} {linked} {linked'} old_is new_is linked_is is = grind (arith, common_steps)

-- the link that a row has for a property
abbrev pub of_row : Property → Option Row → Option Link
of_row q row = option_and_then (λ (row : Row). slice_get row.links q.number) row

-- the row under a key is another one of the same number
module _ (rows : List (Keyed Row)) (key n : ℕ) (old row : Row) (is : IsRowOf rows key n old) (numbered : row.object ≡ n) where
  pub row_put : row_of (with_row rows key row) n ≡ Some row
  row_put = by rows is.alone is.found
    where
      by : (rows : List (Keyed Row)) → All (λ keyed. ((keyed.key == key) ≡ (keyed.row.object == n)) × ((keyed.key == key) ≡ true → keyed.row ≡ old)) rows
          → row_of rows n ≡ Some old → row_of (with_row rows key row) n ≡ Some row
      by [] alone found = absurd (cc)
      by (first ∷ rest) alone found =
          let here = (alone 0 first (omega arith)).0 in
          ⊎_elim
          (λ (passes : (first.key == key) ≡ true). let at : (row.object == n) ≡ true = eq-eqb _ _ numbered in rw passes (rw at refl))
          (λ (other : (first.key == key) ≡ false).
          let differs : (first.row.object == n) ≡ false = sym here ∙ other in
          let later : row_of rest n ≡ Some old = rw differs at found in
          rw other (rw differs (by rest (λ k d within. alone (suc k) d (omega (arith, within))) later)))
          (cases_Bool (first.key == key))

  pub row_beside : (m : ℕ) → (m ≡ n → ⊥) → row_of (with_row rows key row) m ≡ row_of rows m
  row_beside m differ = by rows is.alone
    where
      by : (rows : List (Keyed Row)) → All (λ keyed. ((keyed.key == key) ≡ (keyed.row.object == n)) × ((keyed.key == key) ≡ true → keyed.row ≡ old)) rows
          → row_of (with_row rows key row) m ≡ row_of rows m
      by [] alone = refl
      by (first ∷ rest) alone =
          let here = (alone 0 first (omega arith)).0 in
          let later = by rest (λ k d within. alone (suc k) d (omega (arith, within))) in
          ⊎_elim
          (λ (passes : (first.key == key) ≡ true).
          let there : first.row.object ≡ n = eqb-true _ _ (sym here ∙ passes) in
          let not_old : (first.row.object == m) ≡ false = ne_eqb _ _ (λ same. differ (sym same ∙ there)) in
          let not_new : (row.object == m) ≡ false = ne_eqb _ _ (λ same. differ (sym same ∙ numbered)) in
          rw passes (rw (not_old, not_new) later))
          (λ (other : (first.key == key) ≡ false).
          rw other (by_number (first.row.object == m) later))
          (cases_Bool (first.key == key))
        where
          by_number : (b : Bool) → option_map (λ (keyed : Keyed Row). keyed.row) (find (λ keyed. keyed.row.object == m) (with_row rest key row))
              ≡ option_map (λ (keyed : Keyed Row). keyed.row) (find (λ keyed. keyed.row.object == m) rest)
              → option_map (λ (keyed : Keyed Row). keyed.row) (cond b (Some first) (find (λ keyed. keyed.row.object == m) (with_row rest key row)))
              ≡ option_map (λ (keyed : Keyed Row). keyed.row) (cond b (Some first) (find (λ keyed. keyed.row.object == m) rest))
          by_number true later = refl
          by_number false later = later

  pub link_of_old : (q : Property) → q.object ≡ n → link_at rows q ≡ slice_get old.links q.number
  link_of_old q same = ap (of_row q) (ap (row_of rows) same ∙ is.found)

  pub link_of_row : (q : Property) → q.object ≡ n → link_at (with_row rows key row) q ≡ slice_get row.links q.number
  link_of_row q same = ap (of_row q) (ap (row_of (with_row rows key row)) same ∙ row_put)

  -- the links are the same
  pub links_same : row.links ≡ old.links → (q : Property) → link_at (with_row rows key row) q ≡ link_at rows q
  links_same same q = search (rules, link_of_row, link_of_old, of_row, row_beside)

  -- that of one property is another
  module _ (at : ℕ) (link : Link) (within : at < length old.links) (changed : row.links ≡ set old.links at link) where
    pub link_here : link_at (with_row rows key row) (record { object = n; number = at }) ≡ Some link
    link_here = grind (arith, nat_tests, link_of_row (record { object = n; number = at }) refl, number, link_set old.links)

    pub link_elsewhere : (q : Property) → is_property (record { object = n; number = at }) q ≡ false → link_at (with_row rows key row) q ≡ link_at rows q
    link_elsewhere q differ = search (rules, link_of_row, link_other, both_ways, number, and_from, eq-eqb, link_of_old, of_row, row_beside)

-- the properties themselves, where rows keep their numbers and how many links they have
pub same_properties : (change : Keyed Row → Keyed Row) (rows : List (Keyed Row))
    → All (λ keyed. ((change keyed).row.object ≡ keyed.row.object) × (length (change keyed).row.links ≡ length keyed.row.links)) rows
    → properties_in (map change rows) ≡ properties_in rows
same_properties change [] same = refl
same_properties change (first ∷ rest) same =
    search (rules, same 0 first (omega arith), same_properties change rest (λ k d within. same (suc k) d (omega (arith, within))))

-- searches past a filter, and past another list
module _ {X : Type 0} (p : X → Bool) where
  find_passing : (f : X → Bool) → ((x : X) → p x ≡ true → f x ≡ true) → (xs : List X) → find p (filter f xs) ≡ find p xs
  find_passing f passes [] = refl
  find_passing f passes (x ∷ xs) = search (rules, f x, passes x, find_passing f passes xs)

  find_stopped : (f : X → Bool) → ((x : X) → p x ≡ true → f x ≡ false) → (xs : List X) → find p (filter f xs) ≡ None
  find_stopped f stops [] = refl
  find_stopped f stops (x ∷ xs) = search (rules, f x, stops x, find_stopped f stops xs)

  find_behind : (xs ys : List X) → find p xs ≡ None → find p (xs ++ ys) ≡ find p ys
  find_behind [] ys none = refl
  find_behind (x ∷ xs) ys none = search (rules, find_behind xs ys)

  find_before : (xs ys : List X) → find p ys ≡ None → find p (xs ++ ys) ≡ find p xs
  find_before [] ys none = none
  find_before (x ∷ xs) ys none = ap (cond (p x) (Some x)) (find_before xs ys none)

-- an object comes
module _ (rows : List (Keyed Row)) (key : ℕ) (row : Row) where
  abbrev below : List (Keyed Row)
  below = filter (λ keyed. nat_lt keyed.row.object row.object) rows

  abbrev above : List (Keyed Row)
  above = filter (λ keyed. nat_lt row.object keyed.row.object) rows

  abbrev is_of : ℕ → Keyed Row → Bool
  is_of m keyed = keyed.row.object == m

  found_new : find (is_of row.object) (inserted number rows key row) ≡ Some (record { key = key; row = row })
  found_new = search (rules, find_behind, is_of, above, find_stopped, le-ltb, eqb-true, eq-eqb)

  found_old : (m : ℕ) → (m ≡ row.object → ⊥) → find (is_of m) (inserted number rows key row) ≡ find (is_of m) rows
  found_old m differ = search (rules, is_of, ne_eqb, find_before, above, find_stopped, le-ltb, eqb-true, find_passing, lt-ltb, find_behind)

  pub link_new : (q : Property) → q.object ≡ row.object → link_at (inserted number rows key row) q ≡ slice_get row.links q.number
  link_new q same = ap (λ m. of_row q (row_of (inserted number rows key row) m)) same
      ∙ ap (λ found. of_row q (option_map (λ (keyed : Keyed Row). keyed.row) found)) found_new

  pub link_before : (q : Property) → (q.object ≡ row.object → ⊥) → link_at (inserted number rows key row) q ≡ link_at rows q
  link_before q differ = search (rules, of_row, found_old)

-- no object of the number stands
pub link_absent : (rows : List (Keyed Row)) (n : ℕ) → key_of number rows n ≡ None → (q : Property) → q.object ≡ n → link_at rows q ≡ None
link_absent rows n none q same = grind (arith, common_steps)

-- an object goes, where nothing is linked
pub unlinked_without : (rows : List (Keyed Row)) (key n : ℕ) (row : Row) → IsRowOf rows key n row → ((q : Property) → is_linked (link_at rows q) ≡ false)
    → (q : Property) → is_linked (link_at (without rows key) q) ≡ false
unlinked_without rows key n row is none q =
    let same_rows : without rows key ≡ filter (λ keyed. not (keyed.row.object == n)) rows =
    filter_at (λ (keyed : Keyed Row). not (keyed.key == key)) (λ keyed. not (keyed.row.object == n)) rows
    (λ k d within. ap not (is.alone k d within).0) in
    let found : List (Keyed Row) → Bool = λ list. is_linked (link_at list q) in
    ap found same_rows ∙ ⊎_elim
    (λ here. ap (λ found. is_linked (of_row q (option_map (λ (keyed : Keyed Row). keyed.row) found)))
    (find_stopped (λ (keyed : Keyed Row). keyed.row.object == q.object) (λ keyed. not (keyed.row.object == n))
    (λ keyed passes. ap not (eq-eqb _ _ (eqb-true keyed.row.object q.object passes ∙ here))) rows))
    (λ other. ap (λ found. is_linked (of_row q (option_map (λ (keyed : Keyed Row). keyed.row) found)))
    (find_passing (λ (keyed : Keyed Row). keyed.row.object == q.object) (λ keyed. not (keyed.row.object == n))
    (λ keyed passes. ap not (ne_eqb _ _ (λ same. other (sym (eqb-true keyed.row.object q.object passes) ∙ same)))) rows) ∙ none q)
    (cases_eq q.object n)

-- the properties of a new object are linked one by one, from the last on
module _ (before after : Property → Option Link) (n count : ℕ) (first : Head) (links : List Link) (new : AreNew n count first links)
    (here : (q : Property) → q.object ≡ n → after q ≡ slice_get links q.number) (beside : (q : Property) → (q.object ≡ n → ⊥) → after q ≡ before q)
    (absent : (q : Property) → q.object ≡ n → before q ≡ None) where
  abbrev stage : ℕ → Property → Option Link
  stage k q = cond (q.object == n) (cond (nat_lt q.number k) (Some link.Unmarked) (slice_get links q.number)) (before q)

  abbrev first_at : ℕ → Option Property
  first_at k = cond (nat_lt k count) (Some (record { object = n; number = k })) (first_of first)

  pub new_unlinked : is_all first ≡ true → AreLinked before (first_of first) → AreLinked after (first_of first)
  new_unlinked all = linked_kept before after (first_of first)
      (λ q is. ⊎_elim (λ same. absurd (both_ways false refl (ap is_linked (sym (absent q same)) ∙ is))) (λ other. beside q other) (cases_eq q.object n))
      (λ q is. ⊎_elim
      (λ same. absurd (both_ways (is_linked (slice_get links q.number)) (off first all links new q.number) (ap is_linked (sym (here q same)) ∙ is)))
      (λ other. ap is_linked (sym (beside q other)) ∙ is) (cases_eq q.object n))
    where
      off : (first : Head) → is_all first ≡ true → (links : List Link) → AreNew n count first links → (k : ℕ) → is_linked (slice_get links k) ≡ false
      off head.None all links new k = absurd (both_ways false refl all)
      off (head.First at) all links new k = absurd (both_ways false refl all)
      off head.All all links new k = ⊎_elim
          (λ (within : k < count). ap is_linked (new.each k within))
          (λ (past : count ≤ k). ap is_linked (slice_get_past links k (omega (arith, past, new.many))))
          (cases_lt k count)

  module _ (some : is_all first ≡ false) where
    is_next : (k : ℕ) → k < count → slice_get links k ≡ Some (link_to (first_at (k + 1)))
    is_next k within = grind (arith, common_steps)

    staged : AreLinked before (first_of first) → (left k : ℕ) → k + left ≡ count → AreLinked (stage k) (first_at k)
    staged linked zero k is =
        let past : nat_lt k count ≡ false = le-ltb _ _ (omega (arith, is)) in
        subst (AreLinked (stage k)) (sym (ap (λ b. cond b (Some (record { object = n; number = k })) (first_of first)) past))
        (linked_kept before (stage k) (first_of first)
        (λ q is_one. ⊎_elim
        (λ same. absurd (both_ways false refl (ap is_linked (sym (absent q same)) ∙ is_one)))
        (λ other. let differs : (q.object == n) ≡ false = ne_eqb _ _ other in rw differs refl)
        (cases_eq q.object n))
        (λ q is_one. ⊎_elim
        (λ same. absurd (both_ways (is_linked (stage k q)) (off q same) is_one))
        (λ other. let differs : (q.object == n) ≡ false = ne_eqb _ _ other in let is_before : is_linked (before q) ≡ true = rw differs at is_one in is_before)
        (cases_eq q.object n))
        linked)
      where
        off : (q : Property) → q.object ≡ n → is_linked (stage k q) ≡ false
        off q same =
            let at : (q.object == n) ≡ true = eq-eqb _ _ same in
            ⊎_elim
            (λ (within : q.number < k). let less : nat_lt q.number k ≡ true = lt-ltb _ _ within in rw at (rw less refl))
            (λ (beyond : k ≤ q.number).
            let more : nat_lt q.number k ≡ false = le-ltb _ _ beyond in
            rw at (rw more (ap is_linked (slice_get_past links q.number (omega (arith, beyond, is, new.many))))))
            (cases_lt q.number k)
    staged linked (suc left) k is =
        let within : k < count = omega (arith, is) in
        let less : nat_lt k count ≡ true = lt-ltb _ _ within in
        let at : (n == n) ≡ true = eq-eqb n n refl in
        let under : nat_lt k (k + 1) ≡ true = lt-ltb _ _ (omega arith) in
        let level : nat_lt k k ≡ false = le-ltb _ _ (omega arith) in
        let p : Property = record { object = n; number = k } in
        subst (AreLinked (stage k)) (sym (ap (λ b. cond b (Some (record { object = n; number = k })) (first_of first)) less))
        (linked_more (stage (k + 1)) (stage k) (first_at (k + 1)) (record { object = n; number = k })
        (rw at (rw under refl))
        (rw at (rw level (is_next k within)))
        others
        (staged linked left (k + 1) (omega (arith, is))))
      where
        others : (q : Property) → is_property (record { object = n; number = k }) q ≡ false → stage k q ≡ stage (k + 1) q
        others q differ = ⊎_elim
            (λ same.
            let at : (q.object == n) ≡ true = eq-eqb _ _ same in
            let apart : k ≢ q.number = λ level. both_ways (is_property (record { object = n; number = k }) q) differ
            (and_from (n == q.object) (k == q.number) (eq-eqb n q.object (sym same)) (eq-eqb k q.number level)) in
            let step : nat_lt q.number k ≡ nat_lt q.number (k + 1) = ⊎_elim
            (λ (less : q.number < k). lt-ltb _ _ less ∙ sym (lt-ltb _ _ (omega (arith, less))))
            (λ (more : k ≤ q.number). le-ltb _ _ more ∙ sym (le-ltb _ _ (omega (arith, more, apart))))
            (cases_lt q.number k) in
            ap (λ b. cond (q.object == n) (cond b (Some link.Unmarked) (slice_get links q.number)) (before q)) step)
            (λ other. let differs : (q.object == n) ≡ false = ne_eqb _ _ other in rw differs refl)
            (cases_eq q.object n)

    pub new_linked : AreLinked before (first_of first) → AreLinked after (first_at 0)
    new_linked linked = linked_same (stage 0) after (first_at 0)
        (λ q. ⊎_elim
        (λ same. let at : (q.object == n) ≡ true = eq-eqb _ _ same in here q same
        ∙ (let zero_past : nat_lt q.number 0 ≡ false = le-ltb _ _ (omega arith) in rw at (rw zero_past refl)))
        (λ other. let differs : (q.object == n) ≡ false = ne_eqb _ _ other in beside q other ∙ rw differs refl)
        (cases_eq q.object n))
        (staged linked count 0 (omega arith))

-- a row that is found has the number
row_numbered : (rows : List (Keyed Row)) (m : ℕ) (row : Row) → row_of rows m ≡ Some row → row.object ≡ m
row_numbered rows m row is =
    let there = mapped (λ (keyed : Keyed Row). keyed.row) (find (λ keyed. keyed.row.object == m) rows) row is in
    let here = found (λ (keyed : Keyed Row). keyed.row.object == m) rows there.x there.is in
    ap (λ (r : Row). r.object) (sym there.gives) ∙ eqb-true _ _ here.passes

-- the mark of a property is taken
module _ (at : Property) where
  abbrev freed : Row → Row
  freed row = cond (row.object == at.object) (unlinked at row) row

  row_freed : (rows : List (Keyed Row)) (m : ℕ) → row_of (without_link at rows) m ≡ option_map freed (row_of rows m)
  row_freed [] m = refl
  row_freed (first ∷ rest) m = search (rules, row_freed rest m)

  pub link_freed : (rows : List (Keyed Row)) (was : Link) → link_at rows at ≡ Some was → link_at (without_link at rows) at ≡ Some link.Unmarked
  link_freed rows was is = ap (of_row at) (row_freed rows at.object) ∙ by (row_of rows at.object) refl is
    where
      by : (o : Option Row) → row_of rows at.object ≡ o → of_row at o ≡ Some was → of_row at (option_map freed o) ≡ Some link.Unmarked
      by None there is = absurd (cc)
      by (Some row) there is =
          let here : (row.object == at.object) ≡ true = eq-eqb _ _ (row_numbered rows at.object row there) in
          rw here (link_set row.links at.number link.Unmarked (slice_get_within row.links at.number was is))

  pub link_kept : (rows : List (Keyed Row)) (q : Property) → is_property at q ≡ false → link_at (without_link at rows) q ≡ link_at rows q
  link_kept rows q differ = ap (of_row q) (row_freed rows q.object) ∙ by (row_of rows q.object) refl
    where
      by : (o : Option Row) → row_of rows q.object ≡ o → of_row q (option_map freed o) ≡ of_row q o
      by None there = refl
      by (Some row) there = ⊎_elim
          (λ (here : (row.object == at.object) ≡ true).
          let numbered : row.object ≡ q.object = row_numbered rows q.object row there in
          let apart : q.number ≡ at.number → ⊥ = λ same. both_ways (is_property at q) differ
          (and_from (at.object == q.object) (at.number == q.number) (eq-eqb _ _ (sym (eqb-true row.object at.object here) ∙ numbered))
          (eq-eqb _ _ (sym same))) in
          rw here (link_other row.links at.number q.number link.Unmarked apart))
          (λ (other : (row.object == at.object) ≡ false). rw other refl)
          (cases_Bool (row.object == at.object))

  pub properties_freed : (rows : List (Keyed Row)) → properties_in (without_link at rows) ≡ properties_in rows
  properties_freed rows = search (rules, same_properties)

  -- which is what the row of its object is changed to
  pub unlinked_row : (rows : List (Keyed Row)) (key : ℕ) (old : Row) → IsRowOf rows key at.object old
      → with_row rows key (unlinked at old) ≡ without_link at rows
  unlinked_row rows key old is = search (rules, map_at)
