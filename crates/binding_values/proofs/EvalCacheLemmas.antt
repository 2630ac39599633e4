-- What is kept, with one row more.
use Rattle.std.proofs.Common.{◌≡◌, ◌∙◌, ℕ, zero, suc, ◌<◌, Bool, true, false, cond, List, [], ◌∷◌, ◌++◌, Option, Some, None, All, filter, find, inl, inr}
use Rattle.std.proofs.Common.{length, get_or, length-append, option_map, refl, sym, ap, subst, arith}
use Rattle.std.specs.Prelude.{option_and_then}
use Rattle.std.specs.List.{insert, slice_get}
use Rattle.std.proofs.lemmas.List.{get_or_append_left}
use Rattle.std.proofs.lemmas.List.Elements.{All-append, All-cons, All-filter}
use Rattle.std.proofs.lemmas.Option.{slice_get-get_or}
use Rattle.property_store.proofs.ForCallers.{found}
use Rattle.binding_values.specs.declared.eval_result.CacheEntry.{CacheEntry}
use Rattle.binding_values.specs.declared.eval_cache.Entry.{Entry}
use Rattle.property_store.specs.declared.property.Property.{Property}
use Rattle.binding_values.specs.EvalResult.{kept_of}
use Rattle.binding_values.specs.Listed.{IsListed}
use Rattle.binding_values.specs.Order.{IsOrdered}
use Rattle.property_store.specs.Property.{is_property}
use Rattle.binding_values.specs.Sorted.{IsGapAt, is_before}
use Rattle.binding_values.proofs.FuelLemmas.{property_eq}
use Rattle.binding_values.proofs.SortedLemmas.{found_none, insert_rising, inserted}

module _ {X : Type 0} (p : X → Bool) where
  find_more : (xs : List X) (y x : X) → find p xs ≡ Some x → find p (xs ++ y ∷ []) ≡ Some x
  find_more [] y x e = absurd (cc)
  find_more (z ∷ xs) y x e = by (p z) e (find_more xs y x)
    where
      by : (t : Bool) → cond t (Some z) (find p xs) ≡ Some x → (find p xs ≡ Some x → find p (xs ++ y ∷ []) ≡ Some x)
          → cond t (Some z) (find p (xs ++ y ∷ [])) ≡ Some x
      by true e rest = e
      by false e rest = rest e

  find_last : (xs : List X) (y : X) → find p xs ≡ None → find p (xs ++ y ∷ []) ≡ cond (p y) (Some y) None
  find_last [] y e = refl
  find_last (z ∷ xs) y e = by (p z) e (find_last xs y)
    where
      by : (t : Bool) → cond t (Some z) (find p xs) ≡ None → (find p xs ≡ None → find p (xs ++ y ∷ []) ≡ cond (p y) (Some y) None)
          → cond t (Some z) (find p (xs ++ y ∷ [])) ≡ cond (p y) (Some y) None
      by true e rest = absurd (cc)
      by false e rest = rest e

  pub inserted_other : (xs : List X) (k : ℕ) (y : X) → p y ≡ false → find p (insert xs k y) ≡ find p xs
  inserted_other xs zero y e = rw e refl
  inserted_other [] (suc k) y e = rw e refl
  inserted_other (z ∷ xs) (suc k) y e = ap (λ rest. cond (p z) (Some z) rest) (inserted_other xs k y e)

  pub inserted_here : (xs : List X) (k : ℕ) (y : X) → p y ≡ true → find p xs ≡ None → find p (insert xs k y) ≡ Some y
  inserted_here xs zero y e none = rw e refl
  inserted_here [] (suc k) y e none = rw e refl
  inserted_here (z ∷ xs) (suc k) y e none = by (p z) none (inserted_here xs k y e)
    where
      by : (t : Bool) → cond t (Some z) (find p xs) ≡ None → (find p xs ≡ None → find p (insert xs k y) ≡ Some y)
          → cond t (Some z) (find p (insert xs k y)) ≡ Some y
      by true e rest = absurd (cc)
      by false e rest = rest e

module _ (rows : List CacheEntry) (order : List Entry) (is : IsOrdered rows order) (row : CacheEntry) where
  -- a row more changes nothing for a property that has one
  kept_first : (q : Property) (e : Entry) → find (λ (entry : Entry). is_property q entry.at) order ≡ Some e
      → slice_get (rows ++ row ∷ []) e.row ≡ find (λ (row : CacheEntry). is_property q row.at) (rows ++ row ∷ [])
  kept_first q e at =
      let there = found (λ (entry : Entry). is_property q entry.at) order e at in
      let within : e.row < length rows = subst (λ (e : Entry). e.row < length rows) (there.is e) (is.within there.at e there.within) in
      let more : e.row < length (rows ++ row ∷ []) = omega (arith, length-append rows (row ∷ []), within) in
      let here : find (λ (row : CacheEntry). is_property q row.at) rows ≡ Some (get_or rows e.row row) = sym (is.first q)
      ∙ (ap (option_and_then (λ (entry : Entry). slice_get rows entry.row)) at ∙ slice_get-get_or rows e.row row within) in
      slice_get-get_or (rows ++ row ∷ []) e.row row more
      ∙ (ap Some (get_or_append_left rows (row ∷ []) row e.row within)
      ∙ sym (find_more (λ (row : CacheEntry). is_property q row.at) rows row (get_or rows e.row row) here))

  none_first : (q : Property) → find (λ (entry : Entry). is_property q entry.at) order ≡ None → find (λ (row : CacheEntry). is_property q row.at) rows ≡ None
  none_first q none = sym (is.first q) ∙ ap (option_and_then (λ (entry : Entry). slice_get rows entry.row)) none

  more_within : All (λ (entry : Entry). entry.row < length (rows ++ row ∷ [])) order
  more_within = λ k d lt. let within : (get_or order k d).row < length rows = is.within k d lt in omega (arith, length-append rows (row ∷ []), within)

  -- the property of the row has one already
  pub still_ordered : (e : Entry) → find (λ (entry : Entry). is_property row.at entry.at) order ≡ Some e → IsOrdered (rows ++ row ∷ []) order
  still_ordered e there = record { rising = is.rising; within = more_within; first = λ q. by q (find (λ (entry : Entry). is_property q entry.at) order) refl }
    where
      other : (q : Property) → find (λ (entry : Entry). is_property q entry.at) order ≡ None → (t : Bool) → is_property q row.at ≡ t → t ≡ false
      other q none true same = absurd
          (let never : None ≡ Some e = sym none ∙ (ap (λ (p : Property). find (λ (entry : Entry). is_property p entry.at) order) (property_eq q row.at same)
          ∙ there) in cc)
      other q none false same = refl

      by : (q : Property) (o : Option Entry) → find (λ (entry : Entry). is_property q entry.at) order ≡ o
          → option_and_then (λ (entry : Entry). slice_get (rows ++ row ∷ []) entry.row) (find (λ (entry : Entry). is_property q entry.at) order)
          ≡ find (λ (row : CacheEntry). is_property q row.at) (rows ++ row ∷ [])
      by q None none =
          ap (option_and_then (λ (entry : Entry). slice_get (rows ++ row ∷ []) entry.row)) none
          ∙ sym (find_last (λ (row : CacheEntry). is_property q row.at) rows row (none_first q none)
          ∙ ap (λ t. cond t (Some row) None) (other q none (is_property q row.at) refl))
      by q (Some e) at = ap (option_and_then (λ (entry : Entry). slice_get (rows ++ row ∷ []) entry.row)) at ∙ kept_first q e at

  -- it has none so far
  pub one_more : (place : ℕ) (new : Entry) → new.at ≡ row.at → new.row ≡ length rows → IsGapAt (λ (entry : Entry). entry.at) order new.at place
      → IsOrdered (rows ++ row ∷ []) (insert order place new)
  one_more place new at_is row_is gap = record {
    rising = insert_rising is.rising new gap;
    within = subst (All (λ (entry : Entry). entry.row < length (rows ++ row ∷ []))) (sym split)
        (All-append (λ (entry : Entry). entry.row < length (rows ++ row ∷ [])) (filter (λ (entry : Entry). is_before entry.at new.at) order)
        (new ∷ filter (λ (entry : Entry). is_before new.at entry.at) order)
        (All-filter (λ (entry : Entry). is_before entry.at new.at) (λ (entry : Entry). entry.row < length (rows ++ row ∷ [])) order more_within)
        (All-cons (λ (entry : Entry). entry.row < length (rows ++ row ∷ [])) new (filter (λ (entry : Entry). is_before new.at entry.at) order)
        (omega (arith, row_is, length-append rows (row ∷ [])))
        (All-filter (λ (entry : Entry). is_before new.at entry.at) (λ (entry : Entry). entry.row < length (rows ++ row ∷ [])) order more_within)));
    first = λ q. by q (is_property q new.at) refl (find (λ (entry : Entry). is_property q entry.at) order) refl;
  }
    where
      split : insert order place new ≡ filter (λ (entry : Entry). is_before entry.at new.at) order ++ new
          ∷ filter (λ (entry : Entry). is_before new.at entry.at) order
      split = inserted new gap

      nowhere : (q : Property) → is_property q new.at ≡ true → find (λ (entry : Entry). is_property q entry.at) order ≡ None
      nowhere q same = ap (λ (p : Property). find (λ (entry : Entry). is_property p entry.at) order) (property_eq q new.at same)
          ∙ found_none gap

      last : slice_get (rows ++ row ∷ []) new.row ≡ Some row
      last = slice_get-get_or (rows ++ row ∷ []) new.row row (omega (arith, row_is, length-append rows (row ∷ [])))
          ∙ ap Some (ap (λ n. get_or (rows ++ row ∷ []) n row) row_is ∙ at_end rows)
        where
          at_end : (xs : List CacheEntry) → get_or (xs ++ row ∷ []) (length xs) row ≡ row
          at_end [] = refl
          at_end (x ∷ xs) = at_end xs

      by : (q : Property) (t : Bool) → is_property q new.at ≡ t → (o : Option Entry) → find (λ (entry : Entry). is_property q entry.at) order ≡ o
          → option_and_then (λ (entry : Entry). slice_get (rows ++ row ∷ []) entry.row)
          (find (λ (entry : Entry). is_property q entry.at) (insert order place new)) ≡ find (λ (row : CacheEntry). is_property q row.at) (rows ++ row ∷ [])
      by q true same o at =
          ap (option_and_then (λ (entry : Entry). slice_get (rows ++ row ∷ []) entry.row))
          (inserted_here (λ (entry : Entry). is_property q entry.at) order place new same (nowhere q same))
          ∙ (last ∙ sym (find_last (λ (row : CacheEntry). is_property q row.at) rows row (none_first q (nowhere q same))
          ∙ ap (λ t. cond t (Some row) None) (ap (is_property q) (sym at_is) ∙ same)))
      by q false same None none =
          ap (option_and_then (λ (entry : Entry). slice_get (rows ++ row ∷ []) entry.row))
          (inserted_other (λ (entry : Entry). is_property q entry.at) order place new same ∙ none)
          ∙ sym (find_last (λ (row : CacheEntry). is_property q row.at) rows row (none_first q none)
          ∙ ap (λ t. cond t (Some row) None) (ap (is_property q) (sym at_is) ∙ same))
      by q false same (Some e) at =
          ap (option_and_then (λ (entry : Entry). slice_get (rows ++ row ∷ []) entry.row))
          (inserted_other (λ (entry : Entry). is_property q entry.at) order place new same ∙ at)
          ∙ kept_first q e at

-- what an entry names is what is kept
pub kept_by_entry : (rows : List CacheEntry) (order : List Entry) → IsOrdered rows order → (q : Property) (entry : Entry) (o : Option CacheEntry)
    → Some entry ≡ find (λ (entry : Entry). is_property q entry.at) order → o ≡ slice_get rows entry.row
    → option_map (λ (row : CacheEntry). row.kept) o ≡ kept_of rows q
kept_by_entry rows order is q entry o at there = ap (option_map (λ (row : CacheEntry). row.kept))
    (there ∙ (ap (option_and_then (λ (entry : Entry). slice_get rows entry.row)) at ∙ is.first q))

-- and where there is no entry nothing is kept
pub none_by_entry : (rows : List CacheEntry) (order : List Entry) → IsOrdered rows order → (q : Property)
    → None ≡ find (λ (entry : Entry). is_property q entry.at) order → None ≡ kept_of rows q
none_by_entry rows order is q none = ap (option_map (λ (row : CacheEntry). row.kept))
    (ap (option_and_then (λ (entry : Entry). slice_get rows entry.row)) none ∙ is.first q)

-- with an entry for the row that is kept
pub ordered_more : (rows : List CacheEntry) (order new : List Entry) → IsOrdered rows order → (row : CacheEntry) → IsListed order new row.at (length rows)
    → IsOrdered (rows ++ row ∷ []) new
ordered_more rows order new is row (inl stood) = subst (IsOrdered (rows ++ row ∷ [])) (sym stood.same) (still_ordered rows order is row stood.entry stood.found)
ordered_more rows order new is row (inr entered) = subst (IsOrdered (rows ++ row ∷ [])) (sym entered.entered)
    (one_more rows order is row entered.position (record { at = row.at; row = length rows }) refl refl entered.absent)
