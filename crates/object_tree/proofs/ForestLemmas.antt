-- Every change leaves a sound forest.
use Rattle.std.proofs.Common.{◌≡◌, ◌≢◌, ℕ, zero, suc, ◌+◌, ◌-◌, ◌<◌, ◌≤◌, ◌^◌, ◌==◌, Bool, true, false, not, ◌||◌, cond, List, [], ◌∷◌, ◌++◌, Option, Some}
use Rattle.std.proofs.Common.{None, length, map, get_or, refl, sym, ap, ◌∙◌, arith, subst, inl, inr, ⊎_elim, ◌⊎◌, nat_eq}
use Rattle.std.specs.List.{All, AllPairs, list_any}
use Rattle.std.specs.Option.{option_and_then, option_map, option_map_or, option_or, is_some}
use Rattle.std.proofs.lemmas.Bool.{cases_eq, cond_both, cond-true, cond-false, eqb-true, eqb-false, eq-eqb, ne_eqb, false≢true, or_cases, or_left}
use Rattle.std.proofs.lemmas.List.{length-map, length_push, get_or-map}
use Rattle.std.proofs.lemmas.List.Elements.{All-filter, All-map, All-push, All-weaker}
use Rattle.std.proofs.lemmas.List.Folds.{find-append}
use Rattle.std.proofs.lemmas.List.Kept.{AllPairs-filter}
use Rattle.std.proofs.lemmas.List.Quantifiers.{all_pairs_push}
use Rattle.std.proofs.lemmas.List.Sums.{count_by-le-length, length-filter}
use Rattle.std.proofs.lemmas.Map.Keys.{IsDistinct-from_apart, apart_from_distinct, below_from_sorted, sorted_from_strictly_increasing}
use Rattle.object_tree.specs.declared.row.Row.{Row}
use Rattle.object_tree.specs.declared.row.TheConstants.{OBJECTS, DEPTH}
use Rattle.object_tree.specs.Rows.{has_number, has_parent, is_same, is_there, numbers, parent_of, row_of, stamps}
use Rattle.object_tree.specs.Lines.{depth_at, height, is_below, levels_within, line, line_at, walk}
use Rattle.object_tree.specs.Forest.{Forest, IsSound, empty_forest}
use Rattle.object_tree.specs.Changes.{added, changed, marked, moved, orphaned, removed, with_blocked}
use Rattle.object_tree.proofs.NumberLemmas.{nowhere, number_of, there_at, without}
use Rattle.object_tree.proofs.RowLemmas.{change_one, levels_child, levels_one, row-number, row_of-mapped, row_of-without, there_child}
use Rattle.object_tree.proofs.TreeLemmas.{AreRanked, above, above_parent, depth_within, line_of, ranked_above, walk_within}

pub nobody : Row
nobody = record { number = 0; class = 0; parent = None; stamp = 0; dying = false; blocked = false }

-- a row among those that were made so far
pub record IsGiven (last_number last_stamp : ℕ) (row : Row) : Type 0 where
  pub begins : 1 ≤ row.number
  pub number : row.number ≤ last_number
  pub stamp : row.stamp ≤ last_stamp

-- a row before another one: no two have one stamp
pub record Precedes (a b : Row) : Type 0 where
  pub number : a.number < b.number
  pub stamp : a.stamp ≢ b.stamp

-- what a forest has beside its trees
pub record IsCounted (forest : Forest) : Type 0 where
  pub each : All (IsGiven forest.last_number forest.last_stamp) forest.rows
  pub apart : AllPairs Precedes forest.rows
  pub numbers_fit : forest.last_number < 2 ^ 32
  pub stamps_fit : forest.last_stamp < 2 ^ 64
  pub objects : length forest.rows ≤ OBJECTS

pub counted_of : (forest : Forest) → IsSound forest → IsCounted forest
counted_of forest sound = record {
  each = λ k d within. record { begins = sound.numbers_begin k d within; number = sound.numbers_given k d within; stamp = sound.stamps_given k d within };
  apart = λ i j d lt within. record {
    number = omega (
      arith,
      below_from_sorted (numbers forest.rows) i j 0 sound.numbers_rise lt (omega (arith, length-map forest.rows number_of)),
      get_or-map number_of forest.rows i d 0 (omega arith),
      get_or-map number_of forest.rows j d 0 within,
    );
    stamp = λ same. eqb-false _ _ (apart_from_distinct nat_eq (stamps forest.rows) i j 0 sound.stamps_differ lt
        (omega (arith, length-map forest.rows (λ (row : Row). row.stamp))))
        (get_or-map (λ (row : Row). row.stamp) forest.rows i d 0 (omega arith) ∙ (same ∙ sym (get_or-map (λ (row : Row). row.stamp) forest.rows j d 0 within)));
  };
  numbers_fit = sound.numbers_fit;
  stamps_fit = sound.stamps_fit;
  objects = sound.objects;
}

pub sound_from : (forest : Forest) (rank : ℕ → ℕ) → IsCounted forest → AreRanked forest.rows rank → IsSound forest
sound_from forest rank counted ranked = record {
  numbers_rise = sorted_from_strictly_increasing (numbers forest.rows) (λ k within.
      let inside : k + 1 < length forest.rows = omega (arith, length-map forest.rows number_of) in
      omega (
        arith,
        (counted.apart k (k + 1) nobody (omega arith) inside).number,
        get_or-map number_of forest.rows k nobody 0 (omega arith),
        get_or-map number_of forest.rows (k + 1) nobody 0 inside,
      ));
  numbers_begin = λ k d within. (counted.each k d within).begins;
  numbers_given = λ k d within. (counted.each k d within).number;
  numbers_fit = counted.numbers_fit;
  stamps_differ = IsDistinct-from_apart nat_eq (stamps forest.rows) (λ i j d lt within.
      let inside : j < length forest.rows = omega (arith, length-map forest.rows (λ (row : Row). row.stamp)) in
      ne_eqb _ _ (λ same. (counted.apart i j nobody lt inside).stamp
      (sym (get_or-map (λ (row : Row). row.stamp) forest.rows i nobody d (omega arith))
      ∙ (same ∙ get_or-map (λ (row : Row). row.stamp) forest.rows j nobody d inside))));
  stamps_given = λ k d within. (counted.each k d within).stamp;
  stamps_fit = counted.stamps_fit;
  objects = counted.objects;
  parents = λ n p is. (ranked.parents n p is).0;
  lines = line_of forest.rows rank ranked;
  depths = depth_within forest.rows rank ranked;
}

pub sound_empty : IsSound empty_forest
sound_empty = sound_from empty_forest (λ n. 0)
    (record {
      each = λ k d h. absurd (omega arith);
      apart = λ i j d lt h. absurd (omega arith);
      numbers_fit = omega arith;
      stamps_fit = omega arith;
      objects = omega arith;
    })
    (record { parents = λ n p e. absurd (cc); shallow = λ n there. absurd (cc) })

-- rows that are edited one by one, and keep their numbers
module _ (f : Row → Row) (keeps : (row : Row) → (f row).number ≡ row.number) (rows : List Row) where
  each-mapped : (P Q : Row → Type 0) → ((row : Row) → P row → Q (f row)) → All P rows → All Q (map f rows)
  each-mapped P Q edits each = All-map Q f rows (All-weaker P (λ row. Q (f row)) edits rows each)

  there-mapped : (n : ℕ) → is_there (map f rows) n ≡ is_there rows n
  there-mapped n = ap is_some (row_of-mapped f keeps rows n) ∙ by (row_of rows n)
    where
      by : (r : Option Row) → is_some (option_map f r) ≡ is_some r
      by None = refl
      by (Some row) = refl

  parent-mapped : (n p : ℕ) → parent_of (map f rows) n ≡ Some p → (row : Row) × (row_of rows n ≡ Some row) × ((f row).parent ≡ Some p)
  parent-mapped n p is = by (row_of rows n) refl (ap (option_and_then (λ (row : Row). row.parent)) (sym (row_of-mapped f keeps rows n)) ∙ is)
    where
      by : (r : Option Row) → row_of rows n ≡ r → option_and_then (λ (row : Row). row.parent) (option_map f r) ≡ Some p
          → (row : Row) × (row_of rows n ≡ Some row) × ((f row).parent ≡ Some p)
      by None found e = absurd (cc)
      by (Some row) found e = (row, found, e)

  apart-mapped : (P : Row → Type 0) → ((a b : Row) → P a → P b → Precedes a b → (f a).stamp ≢ (f b).stamp) → All P rows → AllPairs Precedes rows
      → AllPairs Precedes (map f rows)
  apart-mapped P differ all apart i j d lt within =
      let inside : j < length rows = omega (arith, length-map rows f) in
      let a : Row = get_or rows i d in
      let b : Row = get_or rows j d in
      let before : Precedes a b = apart i j d lt inside in
      rw (get_or-map f rows i d d (omega arith), get_or-map f rows j d d inside)
      (record { number = omega (arith, keeps a, keeps b); stamp = differ a b (all i d (omega arith)) (all j d inside) before })

-- edits that keep stamps too, and give no row another parent
module _ (f : Row → Row) (number : (row : Row) → (f row).number ≡ row.number) (stamp : (row : Row) → (f row).stamp ≡ row.stamp)
    (parent : (row : Row) (p : ℕ) → (f row).parent ≡ Some p → row.parent ≡ Some p) (forest : Forest) (sound : IsSound forest) where
  pub sound_edited : IsSound (record forest { rows = map f forest.rows })
  sound_edited =
      let counted = counted_of forest sound in
      let ranked = ranked_above forest sound in
      sound_from _ (above forest.rows)
      (record {
        each = each-mapped f number forest.rows (IsGiven forest.last_number forest.last_stamp) (IsGiven forest.last_number forest.last_stamp)
            (λ row given. record {
              begins = omega (arith, number row);
              number = omega (arith, number row);
              stamp = omega (arith, stamp row);
            }) counted.each;
        apart = apart-mapped f number forest.rows (IsGiven forest.last_number forest.last_stamp)
            (λ a b _ _ before same. before.stamp (sym (stamp a) ∙ (same ∙ stamp b))) counted.each counted.apart;
        numbers_fit = counted.numbers_fit;
        stamps_fit = counted.stamps_fit;
        objects = omega (arith, length-map forest.rows f);
      })
      (record {
        parents = λ n p is.
            let had = parent-mapped f number forest.rows n p is in
            let up = ranked.parents n p (ap (option_and_then (λ (row : Row). row.parent)) had.1 ∙ parent had.0 p had.2) in
            (there-mapped f number forest.rows p ∙ up.0, up.1);
        shallow = λ n there. ranked.shallow n (sym (there-mapped f number forest.rows n) ∙ there);
      })

-- such an edit of one row
pub sound_changed : (f : Row → Row) (o : ℕ) (forest : Forest) → ((row : Row) → (f row).number ≡ row.number) → ((row : Row) → (f row).stamp ≡ row.stamp)
    → ((row : Row) (p : ℕ) → (f row).parent ≡ Some p → row.parent ≡ Some p) → IsSound forest → IsSound (record forest { rows = changed f o forest.rows })
sound_changed f o forest number stamp parent sound = sound_edited (change_one f o)
    (λ row. cond_both (has_number o row) (f row) row (λ r. r.number ≡ row.number) (λ _. number row) (λ _. refl))
    (λ row. cond_both (has_number o row) (f row) row (λ r. r.stamp ≡ row.stamp) (λ _. stamp row) (λ _. refl))
    (λ row p. cond_both (has_number o row) (f row) row (λ r. r.parent ≡ Some p → row.parent ≡ Some p) (λ _. parent row p) (λ _ is. is)) forest sound

pub sound_marked : (forest : Forest) (o : ℕ) → IsSound forest → IsSound (marked forest o)
unfolding marked
sound_marked forest o sound = sound_changed (λ row. record row { dying = true }) o forest (λ row. refl) (λ row. refl) (λ row p is. is) sound

pub sound_blocked : (forest : Forest) (o : ℕ) (on : Bool) → IsSound forest → IsSound (with_blocked forest o on)
unfolding with_blocked
sound_blocked forest o on sound = sound_changed (λ row. record row { blocked = on }) o forest (λ row. refl) (λ row. refl) (λ row p is. is) sound

-- an object that has no child goes
module _ (forest : Forest) (o : ℕ) (sound : IsSound forest) (childless : (n : ℕ) → parent_of forest.rows n ≢ Some o) where
  -- those that are left are found as before
  stays : (n : ℕ) → is_there (without o forest.rows) n ≡ true → n ≢ o
  stays n there same = false≢true (ap is_some (sym (row_of-without o n forest.rows ∙ cond-true (n == o) None (row_of forest.rows n) (eq-eqb n o same))) ∙ there)

  still : (n : ℕ) → n ≢ o → row_of (without o forest.rows) n ≡ row_of forest.rows n
  still n other = row_of-without o n forest.rows ∙ cond-false (n == o) None (row_of forest.rows n) (ne_eqb n o other)

  pub sound_without : IsSound (record forest { rows = without o forest.rows })
  sound_without =
      let counted = counted_of forest sound in
      let ranked = ranked_above forest sound in
      let keep : Row → Bool = λ row. not (has_number o row) in
      sound_from _ (above forest.rows)
      (record {
        each = All-filter keep (IsGiven forest.last_number forest.last_stamp) forest.rows counted.each;
        apart = AllPairs-filter Precedes keep forest.rows counted.apart;
        numbers_fit = counted.numbers_fit;
        stamps_fit = counted.stamps_fit;
        objects = omega (arith, length-filter keep forest.rows, count_by-le-length keep forest.rows);
      })
      (record {
        parents = λ n p is.
            let was : parent_of forest.rows n ≡ Some p = ap (option_and_then (λ (row : Row). row.parent))
            (sym (still n (stays n (there_child (without o forest.rows) n p is)))) ∙ is in
            (ap is_some (still p (λ same. childless n (was ∙ ap Some same))) ∙ (ranked.parents n p was).0, (ranked.parents n p was).1);
        shallow = λ n there. ranked.shallow n (ap is_some (sym (still n (stays n there))) ∙ there);
      })

module _ (o : ℕ) where
  pub orphan_number : (row : Row) → (orphaned o row).number ≡ row.number
  orphan_number row = cond_both (has_parent (Some o) row) (record row { parent = None }) row (λ r. r.number ≡ row.number) (λ _. refl) (λ _. refl)

  orphan_parent : (row : Row) (p : ℕ) → (orphaned o row).parent ≡ Some p → (row.parent ≡ Some p) × (p ≢ o)
  orphan_parent row p = cond_both (has_parent (Some o) row) (record row { parent = None }) row (λ r. r.parent ≡ Some p → (row.parent ≡ Some p) × (p ≢ o))
      (λ has is. absurd (cc))
      (λ lacks is. (is, λ same. false≢true (sym lacks ∙ (ap (λ r. is_same r (Some o)) is ∙ eq-eqb p o same))))

  orphans_without : (rows : List Row) → without o (map (orphaned o) rows) ≡ map (orphaned o) (without o rows)
  orphans_without [] = refl
  orphans_without (row ∷ rest) = (λ i. cond (not (orphan_number row i == o)) (orphaned o row ∷ orphans_without rest i) (orphans_without rest i))
      ∙ by (row.number == o)
    where
      by : (b : Bool) → cond (not b) (orphaned o row ∷ map (orphaned o) (without o rest)) (map (orphaned o) (without o rest))
          ≡ map (orphaned o) (cond (not b) (row ∷ without o rest) (without o rest))
      by true = refl
      by false = refl

  pub sound_removed : (forest : Forest) → IsSound forest → IsSound (removed forest o)
  unfolding removed
  sound_removed forest sound = subst (λ rows. IsSound (record forest { rows = rows })) (orphans_without forest.rows)
      (sound_without (record forest { rows = map (orphaned o) forest.rows }) o
      (sound_edited (orphaned o) orphan_number
      (λ row. cond_both (has_parent (Some o) row) (record row { parent = None }) row (λ r. r.stamp ≡ row.stamp) (λ _. refl) (λ _. refl))
      (λ row p is. (orphan_parent row p is).0) forest sound)
      (λ n is. let had = parent-mapped (orphaned o) orphan_number forest.rows n o is in (orphan_parent had.0 o had.2).1 refl))

module _ (forest : Forest) (parent : Option ℕ) (class : ℕ) (sound : IsSound forest) where
  abbrev new : ℕ
  new = forest.last_number + 1

  abbrev new_row : Row
  new_row = record { number = forest.last_number + 1; class = class; parent = parent; stamp = forest.last_stamp + 1; dying = false; blocked = false }

  -- the new row is found, and all others as before
  row_of-new : (n : ℕ) → row_of (forest.rows ++ new_row ∷ []) n ≡ cond (n == new) (Some new_row) (row_of forest.rows n)
  row_of-new n = find-append (has_number n) forest.rows (new_row ∷ []) ∙ ⊎_elim
      (λ (same : n ≡ new).
      let absent = (nowhere number_of (λ r. r) new forest.rows new_row (λ k within is. absurd (omega (arith, sound.numbers_given k new_row within)))).0 in
      rw (same, absent, eq-eqb new new refl) refl)
      (λ other. rw (ne_eqb n new other, ne_eqb new n (λ same. other (sym same))) (by (row_of forest.rows n)))
      (cases_eq n new)
    where
      by : (r : Option Row) → option_or r None ≡ r
      by None = refl
      by (Some row) = refl

  old : (n : ℕ) → is_there forest.rows n ≡ true → n ≢ new
  old n there same = let place = there_at forest.rows n there in absurd (omega (arith, sound.numbers_given place.0 nobody place.1, place.2 nobody))

  row_of-old : (n : ℕ) → n ≢ new → row_of (forest.rows ++ new_row ∷ []) n ≡ row_of forest.rows n
  row_of-old n other = row_of-new n ∙ cond-false (n == new) (Some new_row) (row_of forest.rows n) (ne_eqb n new other)

  pub sound_added : forest.last_number < 2 ^ 32 - 1 → forest.last_stamp < 2 ^ 64 - 1 → length forest.rows < OBJECTS → depth_at forest.rows parent < DEPTH
      → ((p : ℕ) → parent ≡ Some p → is_there forest.rows p ≡ true) → IsSound (added forest parent class)
  unfolding added
  sound_added number stamp room shallow there_above =
      let counted = counted_of forest sound in
      let ranked = ranked_above forest sound in
      sound_from _ (λ n. cond (n == new) (depth_at forest.rows parent) (above forest.rows n))
      (record {
        each = All-push (IsGiven (forest.last_number + 1) (forest.last_stamp + 1)) forest.rows new_row
            (All-weaker (IsGiven forest.last_number forest.last_stamp) (IsGiven (forest.last_number + 1) (forest.last_stamp + 1))
            (λ row given. record { begins = given.begins; number = omega arith; stamp = omega arith }) forest.rows counted.each)
            (record { begins = omega arith; number = omega arith; stamp = omega arith });
        apart = all_pairs_push Precedes forest.rows new_row counted.apart
            (λ k d within. record {
              number = omega (arith, (counted.each k d within).number);
              stamp = λ same. absurd (omega (arith, (counted.each k d within).stamp));
            });
        numbers_fit = omega arith;
        stamps_fit = omega arith;
        objects = omega (arith, length_push forest.rows new_row);
      })
      (record {
        parents = λ n p is. ⊎_elim
            (λ same.
            let at : parent ≡ Some p = ap (option_and_then (λ (row : Row). row.parent))
            (sym (row_of-new n ∙ cond-true (n == new) (Some new_row) (row_of forest.rows n) (eq-eqb n new same))) ∙ is in
            let there = there_above p at in (
              ap is_some (row_of-old p (old p there)) ∙ there,
              rw (ne_eqb p new (old p there), eq-eqb n new same) (omega (arith, ap (depth_at forest.rows) at, ap length (sound.lines p there))),
            ))
            (λ other.
            let up = ranked.parents n p (ap (option_and_then (λ (row : Row). row.parent)) (sym (row_of-old n other)) ∙ is) in
            (ap is_some (row_of-old p (old p up.0)) ∙ up.0, rw (ne_eqb p new (old p up.0), ne_eqb n new other) up.1))
            (cases_eq n new);
        shallow = λ n there. cond_both (n == new) (depth_at forest.rows parent) (above forest.rows n) (λ rank. rank < DEPTH) (λ _. shallow)
            (λ other. ranked.shallow n (ap is_some (sym (row_of-old n (eqb-false n new other))) ∙ there));
      })

-- what hangs below an object stands lower by as many levels as hang there at least
module _ (forest : Forest) (o : ℕ) (sound : IsSound forest) where
  hangs : (f n : ℕ) → list_any (λ above. o == above) (walk (parent_of forest.rows) f n) ≡ true
      → (steps : ℕ) × (above forest.rows n ≡ above forest.rows o + steps)
      × ((f g : ℕ) → g ≡ f + steps → levels_within f forest.rows n + steps ≤ levels_within g forest.rows o)
  hangs zero n in' = absurd (cc)
  hangs (suc f) n in' = ⊎_elim
      (λ here.
      let same : o ≡ n = eqb-true o n here in (
        0,
        omega (arith, ap (above forest.rows) same),
        λ f g is.
            (let few : g ≡ f = omega arith in omega (arith, ap (λ m. levels_within f forest.rows m) same, ap (λ k. levels_within k forest.rows o) few)),
      ))
      (λ later. by (λ p. hangs f p) (parent_of forest.rows n) refl later)
      (or_cases (o == n) _ in')
    where
      by : ((p : ℕ) → list_any (λ above. o == above) (walk (parent_of forest.rows) f p) ≡ true
          → (steps : ℕ) × (above forest.rows p ≡ above forest.rows o + steps)
          × ((f g : ℕ) → g ≡ f + steps → levels_within f forest.rows p + steps ≤ levels_within g forest.rows o)) → (r : Option ℕ) → parent_of forest.rows n ≡ r
          → list_any (λ above. o == above) (option_map_or (walk (parent_of forest.rows) f) r []) ≡ true
          → (steps : ℕ) × (above forest.rows n ≡ above forest.rows o + steps)
          × ((f g : ℕ) → g ≡ f + steps → levels_within f forest.rows n + steps ≤ levels_within g forest.rows o)
      by rest None is later = absurd (cc)
      by rest (Some p) is later =
          let up = rest p later in (
            suc up.0,
            omega (arith, above_parent forest sound n p is),
            λ f g sum. omega (arith, levels_child forest.rows f n p is, up.2 (suc f) g (omega arith)),
          )

  pub hangs_below : (n : ℕ) → is_below forest.rows o n ≡ true
      → (steps : ℕ) × (above forest.rows n ≡ above forest.rows o + steps)
      × ((f g : ℕ) → g ≡ f + steps → levels_within f forest.rows n + steps ≤ levels_within g forest.rows o)
  unfolding line
  hangs_below n in' = hangs (length forest.rows) n in'

  -- a child is below another one where its parent is
  below_parent : (n p : ℕ) → n ≢ o → parent_of forest.rows n ≡ Some p → is_below forest.rows o n ≡ is_below forest.rows o p
  below_parent n p other is =
      ap (list_any (λ above. o == above)) (sound.lines n (there_child forest.rows n p is) ∙ ap (λ q. n ∷ line_at forest.rows q) is)
      ∙ ap (λ b. b || is_below forest.rows o p) (ne_eqb o n (λ same. other (sym same)))

  below_itself : is_there forest.rows o ≡ true → is_below forest.rows o o ≡ true
  below_itself there = ap (list_any (λ above. o == above)) (sound.lines o there) ∙ or_left (o == o) _ (eq-eqb o o refl)

  few_above : (n : ℕ) → is_there forest.rows n ≡ true → above forest.rows n < length forest.rows
  unfolding line
  few_above n there = omega (arith, ap length (sound.lines n there), walk_within (parent_of forest.rows) (length forest.rows) n)

module _ (forest : Forest) (o : ℕ) (parent : Option ℕ) (sound : IsSound forest) (there : is_there forest.rows o ≡ true) where
  abbrev moves : Row → Row
  moves row = record row { parent = parent; stamp = forest.last_stamp + 1 }

  move_number : (row : Row) → (change_one moves o row).number ≡ row.number
  move_number row = cond_both (has_number o row) (moves row) row (λ r. r.number ≡ row.number) (λ _. refl) (λ _. refl)

  parent_of-moved : (n p : ℕ) → parent_of (changed moves o forest.rows) n ≡ Some p
      → ((n ≡ o) × (parent ≡ Some p)) ⊎ ((n ≢ o) × (parent_of forest.rows n ≡ Some p))
  parent_of-moved n p is =
      let had = parent-mapped (change_one moves o) move_number forest.rows n p is in
      let row : Row = had.0 in
      let numbered : row.number ≡ n = row-number forest.rows n row had.1 in
      cond_both (has_number o row) (moves row) row (λ r. r.parent ≡ Some p → ((n ≡ o) × (parent ≡ Some p)) ⊎ ((n ≢ o) × (parent_of forest.rows n ≡ Some p)))
      (λ same e. inl (sym numbered ∙ eqb-true row.number o same, e))
      (λ other e. inr (λ same. eqb-false row.number o other (numbered ∙ same), ap (option_and_then (λ (r : Row). r.parent)) had.1 ∙ e)) had.2

  -- those that are below it come to stand below its new parent
  abbrev rank : ℕ → ℕ
  rank n = cond (is_below forest.rows o n) (above forest.rows n - above forest.rows o + depth_at forest.rows parent) (above forest.rows n)

  rank_parent : (n p : ℕ) → n ≢ o → parent_of forest.rows n ≡ Some p → rank p < rank n
  rank_parent n p other is = rw (below_parent forest o sound n p other is) (by (is_below forest.rows o p) refl)
    where
      by : (b : Bool) → is_below forest.rows o p ≡ b → cond b (above forest.rows p - above forest.rows o + depth_at forest.rows parent)
          (above forest.rows p) < cond b (above forest.rows n - above forest.rows o + depth_at forest.rows parent) (above forest.rows n)
      by true below = omega (arith, (hangs_below forest o sound p below).1, above_parent forest sound n p is)
      by false apart = omega (arith, above_parent forest sound n p is)

  pub sound_moved : forest.last_stamp < 2 ^ 64 - 1 → ((p : ℕ) → parent ≡ Some p → (is_there forest.rows p ≡ true) × (is_below forest.rows o p ≡ false))
      → depth_at forest.rows parent + height forest.rows o ≤ DEPTH → IsSound (moved forest o parent)
  unfolding moved height
  sound_moved stamp above_it fits =
      let counted = counted_of forest sound in
      let ranked = ranked_above forest sound in
      sound_from _ rank
      (record {
        each = each-mapped (change_one moves o) move_number forest.rows (IsGiven forest.last_number forest.last_stamp)
            (IsGiven forest.last_number (forest.last_stamp + 1)) (λ row given. record {
              begins = omega (arith, move_number row);
              number = omega (arith, move_number row);
              stamp = cond_both (has_number o row) (moves row) row (λ r. r.stamp ≤ forest.last_stamp + 1) (λ _. omega arith) (λ _. omega arith);
            }) counted.each;
        apart = apart-mapped (change_one moves o) move_number forest.rows (IsGiven forest.last_number forest.last_stamp) move_apart counted.each counted.apart;
        numbers_fit = counted.numbers_fit;
        stamps_fit = omega arith;
        objects = omega (arith, length-map forest.rows (change_one moves o));
      })
      (record {
        parents = λ n p is. ⊎_elim
            (λ here.
            let at = above_it p here.1 in (
              there-mapped (change_one moves o) move_number forest.rows p ∙ at.0,
              rw (here.0, at.1, below_itself forest o sound there) (omega (arith, ap (depth_at forest.rows) here.1, ap length (sound.lines p at.0))),
            ))
            (λ elsewhere.
            (there-mapped (change_one moves o) move_number forest.rows p ∙ sound.parents n p elsewhere.1, rank_parent n p elsewhere.0 elsewhere.1))
            (parent_of-moved n p is);
        shallow = λ n stood.
            let stands : is_there forest.rows n ≡ true = sym (there-mapped (change_one moves o) move_number forest.rows n) ∙ stood in
            cond_both (is_below forest.rows o n) (above forest.rows n - above forest.rows o + depth_at forest.rows parent) (above forest.rows n)
            (λ rank. rank < DEPTH)
            (λ below.
            let hung = hangs_below forest o sound n below in
            let left : ℕ = length forest.rows - hung.0 - 1 in
            omega (
              arith,
              few_above forest o sound n stands,
              levels_one forest.rows left n,
              hung.2 (suc left) (length forest.rows) (omega (arith, hung.1, few_above forest o sound n stands)),
            ))
            (λ _. ranked.shallow n stands);
      })
    where
      move_apart : (a b : Row) → IsGiven forest.last_number forest.last_stamp a → IsGiven forest.last_number forest.last_stamp b → Precedes a b
          → (change_one moves o a).stamp ≢ (change_one moves o b).stamp
      move_apart a b is_a is_b before = by (a.number == o) (b.number == o) refl refl
        where
          by : (x y : Bool) → (a.number == o) ≡ x → (b.number == o) ≡ y → (cond x (moves a) a).stamp ≢ (cond y (moves b) b).stamp
          by true true at_a at_b = λ same. absurd (omega (arith, eqb-true a.number o at_a, eqb-true b.number o at_b))
          by true false at_a at_b = λ same. absurd (omega arith)
          by false true at_a at_b = λ same. absurd (omega arith)
          by false false at_a at_b = before.stamp
