-- The bindings of a place, with one more and with fewer.
use Rattle.std.proofs.Common.{◌≡◌, ◌∙◌, ℕ, zero, suc, ◌+◌, ◌<◌, ◌≤◌, ◌==◌, ◌&&◌, ◌||◌, Bool, true, false, cond, not, List, [], ◌∷◌, Option, Some, None}
use Rattle.std.proofs.Common.{All, filter, length, get_or, arith, option_map, nat_le, nat_lt, refl, sym, ap, subst, ⊎_elim}
use Rattle.std.specs.List.{remove}
use Rattle.std.specs.Option.{is_some}
use Rattle.std.proofs.lemmas.Bool.{cases_lt, le-leb, lt-leb}
use Rattle.std.proofs.lemmas.Bool.Decides.{nat_tests}
use Rattle.std.proofs.lemmas.List.Edits.{get_or-remove_above, get_or-remove_below, length-remove}
use Rattle.property_store.proofs.ForCallers.{filter_all}
use Rattle.std.proofs.lemmas.List.Elements.{All-append, All-cons, All-filter}
use Rattle.std.proofs.lemmas.List.Kept.{AllPairs-filter}
use Rattle.plain_types.specs.declared.code.Code.TheVariants.{Limit}
use Rattle.term_core.specs.Forms.{is_within_limits}
use Rattle.binding_values.specs.declared.binding.Binding.{Binding}
use Rattle.property_store.specs.declared.property.Property.{Property}
use Rattle.binding_values.specs.Binds.{AreBindings, put_refusal, with_binding}
use Rattle.binding_values.specs.Sorted.{IsCountBefore, IsGapAt, IsRising, IsRowAt, is_before}
use Rattle.binding_values.proofs.SortedLemmas.{found_none, found_row, with_rising}

-- one binding more is refused where there are too many, and another of a property that is bound is not

pub free_there : {at : Property} {rows : List Binding} {place : ℕ} → IsRising (λ (binding : Binding). binding.at) rows
    → IsRowAt (λ (binding : Binding). binding.at) rows at place → Binding → put_refusal rows at ≡ None
free_there {at} {rows} rising there d =
    ap (λ (found : Option Binding). cond (is_some (option_map (λ (binding : Binding). binding.expr) found)) None
    (cond (nat_le 1024 (length rows)) (Some Limit) None)) (found_row there rising d)

module _ {at : Property} {rows : List Binding} {place : ℕ} (gap : IsGapAt (λ (binding : Binding). binding.at) rows at place) where
  by_count : (full : Bool) → nat_le 1024 (length rows) ≡ full → put_refusal rows at ≡ cond full (Some Limit) None
  by_count full e =
      ap (λ (found : Option Binding). cond (is_some (option_map (λ (binding : Binding). binding.expr) found)) None
      (cond (nat_le 1024 (length rows)) (Some Limit) None)) (found_none gap)
      ∙ ap (λ (full : Bool). cond full (Some Limit) None) e

  pub full_there : 1024 ≤ length rows → put_refusal rows at ≡ Some Limit
  full_there full = by_count true (le-leb 1024 (length rows) full)

  pub room_there : length rows < 1024 → put_refusal rows at ≡ None
  room_there room = by_count false (lt-leb 1024 (length rows) room)

pub with_limited : (new : Binding) (rows : List Binding) → is_within_limits new.expr ≡ true
    → All (λ (binding : Binding). is_within_limits binding.expr ≡ true) rows
    → All (λ (binding : Binding). is_within_limits binding.expr ≡ true) (with_binding new rows)
with_limited new rows short all =
    All-append P (filter (λ binding. is_before binding.at new.at) rows) (new ∷ filter (λ binding. is_before new.at binding.at) rows)
    (All-filter (λ binding. is_before binding.at new.at) P rows all)
    (All-cons P new (filter (λ binding. is_before new.at binding.at) rows) short (All-filter (λ binding. is_before new.at binding.at) P rows all))
  where
    P : Binding → Type 0
    P binding = is_within_limits binding.expr ≡ true

-- a list with one more, or another in a place

pub still_sound : (new : Binding) (rows after : List Binding) → AreBindings rows → is_within_limits new.expr ≡ true → after ≡ with_binding new rows
    → length after ≤ 1024 → AreBindings after
still_sound new rows after are short is few = subst (λ (bs : List Binding). length bs ≤ 1024 → AreBindings bs) (sym is)
    (λ le. record { few = le; rising = with_rising (λ (binding : Binding). binding.at) new rows are.rising; limited = with_limited new rows short are.limited })
    few

-- with fewer

shorter : {X : Type 0} (p : X → Bool) (xs : List X) → length (filter p xs) ≤ length xs
shorter p [] = omega arith
shorter p (x ∷ xs) = by (p x) (shorter p xs)
  where
    by : (t : Bool) → length (filter p xs) ≤ length xs → length (cond t (x ∷ filter p xs) (filter p xs)) ≤ suc (length xs)
    by true le = omega arith
    by false le = omega arith

pub fewer_sound : (p : Binding → Bool) (rows : List Binding) → AreBindings rows → AreBindings (filter p rows)
fewer_sound p rows are = record {
  few = omega (arith, shorter p rows, are.few);
  rising = AllPairs-filter (λ (earlier : Binding) (later : Binding). is_before earlier.at later.at ≡ true) p rows are.rising;
  limited = All-filter p (λ (binding : Binding). is_within_limits binding.expr ≡ true) rows are.limited;
}

-- the bindings of an object, one after the other

behind_other : (a b c d o : ℕ) → (nat_lt a o || (a == o && nat_lt b 0)) ≡ false → (a == o) ≡ false → (nat_lt a c || (a == c && nat_lt b d)) ≡ true
    → (c == o) ≡ false
behind_other a b c d o behind other before = grind (arith, nat_tests)

before_other : (a b o : ℕ) → (nat_lt a o || (a == o && nat_lt b 0)) ≡ true → (a == o) ≡ false
before_other a b o before = grind (arith, nat_tests)

module _ (rows : List Binding) (object place : ℕ) (rising : IsRising (λ (binding : Binding). binding.at) rows)
    (count : IsCountBefore (λ (binding : Binding). binding.at) rows (record { object = object; number = 0 }) place) where
  -- none is left where none stands in the place of the first one
  pub none_left : ((d : Binding) → place < length rows → ((get_or rows place d).at.object == object) ≡ false)
      → filter (λ (binding : Binding). not (binding.at.object == object)) rows ≡ rows
  none_left none = filter_all (λ (binding : Binding). not (binding.at.object == object)) rows (λ k d lt. ap not (other k d lt))
    where
      other : (k : ℕ) (d : Binding) → k < length rows → ((get_or rows k d).at.object == object) ≡ false
      other k d lt = ⊎_elim
          (λ (front : k < place). before_other (get_or rows k d).at.object (get_or rows k d).at.number object (count.before k d (omega arith) front))
          (λ (behind : place ≤ k). ⊎_elim
          (λ (later : place < k). behind_other (get_or rows place d).at.object (get_or rows place d).at.number (get_or rows k d).at.object
          (get_or rows k d).at.number object (count.behind place d (omega arith) (omega arith)) (none d (omega arith)) (rising place k d later lt))
          (λ (level : k ≤ place). let same : k ≡ place = omega arith in ap (λ n. (get_or rows n d).at.object == object) same ∙ none d (omega arith))
          (cases_lt place k))
          (cases_lt k place)

  module _ (within : place < length rows) where
    pub removed_rising : IsRising (λ (binding : Binding). binding.at) (remove rows place)
    removed_rising i j d lt inside = ⊎_elim
        (λ (front : j < place). rw (get_or-remove_below rows place d i (omega arith) within, get_or-remove_below rows place d j front within)
        (rising i j d lt (omega (arith, long, inside))))
        (λ (behind : place ≤ j). ⊎_elim
        (λ (front : i < place). rw (get_or-remove_below rows place d i front within, get_or-remove_above rows place d j behind within)
        (rising i (j + 1) d (omega arith) (omega (arith, long, inside))))
        (λ (later : place ≤ i). rw (get_or-remove_above rows place d i later within, get_or-remove_above rows place d j behind within)
        (rising (i + 1) (j + 1) d (omega arith) (omega (arith, long, inside))))
        (cases_lt i place))
        (cases_lt j place)
      where
        long : length (remove rows place) + 1 ≡ length rows
        long = length-remove rows place within

    pub removed_count : IsCountBefore (λ (binding : Binding). binding.at) (remove rows place) (record { object = object; number = 0 }) place
    removed_count = record {
      within = omega (arith, length-remove rows place within, within);
      before = λ k d low high. ap (λ (b : Binding). is_before b.at (record { object = object; number = 0 })) (get_or-remove_below rows place d k high within)
          ∙ count.before k d low high;
      behind = λ k d low high. ap (λ (b : Binding). is_before b.at (record { object = object; number = 0 })) (get_or-remove_above rows place d k low within)
          ∙ count.behind (k + 1) d (omega (arith, low)) (omega (arith, length-remove rows place within, high));
    }

pub filter_removed : {X : Type 0} (p : X → Bool) (rows : List X) (k : ℕ) (d : X) → k < length rows → p (get_or rows k d) ≡ false
    → filter p (remove rows k) ≡ filter p rows
filter_removed p [] k d lt off = absurd (omega arith)
filter_removed p (row ∷ rows) zero d lt off = rw off refl
filter_removed p (row ∷ rows) (suc k) d lt off = ap (λ rest. cond (p row) (row ∷ rest) rest) (filter_removed p rows k d (omega arith) off)
