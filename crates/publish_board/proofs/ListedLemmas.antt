-- The places that are listed, and what the desks join.
use Rattle.std.proofs.Common.{◌≡◌, ◌≢◌, ◌∙◌, ℕ, ◌+◌, ◌-◌, ◌<◌, ◌≤◌, ◌==◌, ◌&&◌, ◌||◌, Bool, true, false, cond, List, [], ◌∷◌, Option, Some, None, OnErr, Result}
use Rattle.std.proofs.Common.{filter, not}
use Rattle.std.proofs.Common.{Ok, Err, remove, length, get_or, nat_lt, refl, sym, ap, arith, ⊎_elim}
use Rattle.std.specs.List.{count_by, list_any}
use Rattle.std.proofs.lemmas.Bool.{cases_eq, cases_lt, eq-eqb, false≢true, lt-ltb, ne_eqb, or_parts}
use Rattle.std.proofs.lemmas.List.{get_or_past, get_or-set_other, get_or-set_same}
use Rattle.std.proofs.lemmas.List.Sums.{sum_by-append, sum_by-remove}
use Rattle.shared_rows.specs.Table.{IsPlace, Table, with_place}
use Rattle.shared_rows.proofs.ForCallers.{with_same}
use Rattle.publish_board.specs.declared.join.Join.{Join}
use Rattle.publish_board.specs.declared.joiners.Joiners.{Joiners}
use Rattle.publish_board.specs.declared.topic.Topic.{Topic}
use Rattle.publish_board.specs.Desk.{Desk, left, no_desk}
use Rattle.publish_board.specs.Rows.{is_join, listens}
use Rattle.publish_board.specs.Table.{IsNextWith, desk_at}
use Rattle.publish_board.specs.Inside.{without_join}
use Rattle.publish_board.specs.Joiners.{AreListed, IsFirstOf, count_at, is_listed}
use Rattle.publish_board.specs.Topics.{is_of}

-- a desk put back as it was
pub put_back : {T E : Type 0} (r : Result T E) (table : Table Desk) (place : ℕ) (now new : Desk) → now ≡ desk_at table place → OnErr r (new ≡ now)
    → OnErr r (with_place table place new ≡ table)
put_back (Ok value) table place now new stood same = tt
put_back (Err error) table place now new stood same = ap (with_place table place) (same ∙ stood) ∙ with_same no_desk table place

-- where none passes, all stay
pub filter_none : (p : Join → Bool) (joins : List Join) → list_any p joins ≡ false → filter (λ join. not (p join)) joins ≡ joins
filter_none p [] none = refl
filter_none p (join ∷ joins) none =
    let parts = or_parts (p join) (list_any p joins) none in
    rw parts.0 (ap (λ rest. join ∷ rest) (filter_none p joins parts.1))

-- any passes where some do
any_counted : (p : Join → Bool) (joins : List Join) → nat_lt 0 (count_by p joins) ≡ list_any p joins
any_counted p [] = refl
any_counted p (join ∷ joins) = by (p join) refl (any_counted p joins)
  where
    one : count_by p (join ∷ joins) ≡ (0 + cond (p join) 1 0) + count_by p joins
    one = sum_by-append (λ join. cond (p join) 1 0) (join ∷ []) joins

    plain : (n : ℕ) → (0 + 0) + n ≡ n
    plain n = omega arith

    by : (passes : Bool) → p join ≡ passes → nat_lt 0 (count_by p joins) ≡ list_any p joins → nat_lt 0 (count_by p (join ∷ joins)) ≡ list_any p (join ∷ joins)
    by true e rest =
        let is : count_by p (join ∷ joins) ≡ (0 + 1) + count_by p joins = one ∙ (λ i. (0 + cond (e i) 1 0) + count_by p joins) in
        lt-ltb 0 (count_by p (join ∷ joins)) (omega (arith, is)) ∙ sym (ap (λ passes. passes || list_any p joins) e)
    by false e rest =
        let is : count_by p (join ∷ joins) ≡ count_by p joins = one ∙ ((λ i. (0 + cond (e i) 1 0) + count_by p joins) ∙ plain (count_by p joins)) in
        ap (nat_lt 0) is ∙ (rest ∙ sym (ap (λ passes. passes || list_any p joins) e))

-- the first place that is listed is the first that joins
pub next_joins : (joiners : Joiners) (table : Table Desk) → AreListed joiners table → (topic : Topic) (least : ℕ) (result : Option ℕ)
    → IsFirstOf (is_listed joiners topic) least result → IsNextWith (λ desk. list_any (is_of topic) desk.joins) table least result
next_joins joiners table listed topic least result first = by result first
  where
    joins : (place : ℕ) → is_listed joiners topic place ≡ list_any (is_of topic) (desk_at table place).joins
    joins place = ap (nat_lt 0) (listed topic place) ∙ any_counted (is_of topic) (desk_at table place).joins

    nowhere : (place : ℕ) → is_listed joiners topic place ≡ true → length table.places ≤ place → ⊥
    nowhere place there past = false≢true (sym (ap (λ (desk : Desk). list_any (is_of topic) desk.joins) (get_or_past table.places place no_desk past))
        ∙ (sym (joins place) ∙ there))

    by : (result : Option ℕ) → IsFirstOf (is_listed joiners topic) least result
        → IsNextWith (λ desk. list_any (is_of topic) desk.joins) table least result
    by None none = λ other from_least is_place. sym (joins other) ∙ none other from_least
    by (Some place) first = record {
      is_place = ⊎_elim (λ (within : place < length table.places). within) (λ (past : length table.places ≤ place). absurd (nowhere place first.1 past))
          (cases_lt place (length table.places));
      from_least = first.0;
      joins = sym (joins place) ∙ first.1;
      before = λ other from_least before. sym (joins other) ∙ first.2 other from_least before;
    }

-- no join is taken out of a place that is not listed under the topic
module _ (from name : List ℕ) (object method : ℕ) where
  none_same : (joins : List Join) → list_any (listens from name) joins ≡ false → list_any (is_join from name object method) joins ≡ false
  none_same [] none = refl
  none_same (join ∷ joins) none =
      let parts = or_parts (listens from name join) (list_any (listens from name) joins) none in
      rw parts.0 (none_same joins parts.1)

  module _ (joiners : Joiners) (table : Table Desk) (listed : AreListed joiners table) (place : ℕ)
      (none : is_listed joiners (record { from = from; name = Some name }) place ≡ false) where
    pub none_leaves : list_any (is_join from name object method) (desk_at table place).joins ≡ false
    none_leaves = none_same (desk_at table place).joins (sym (any_counted (listens from name) (desk_at table place).joins)
        ∙ (ap (nat_lt 0) (sym (listed (record { from = from; name = Some name }) place)) ∙ none))

    pub all_stay : table ≡ with_place table place (left (desk_at table place) from name object method)
    all_stay = sym (ap (λ (joins : List Join). with_place table place (record (desk_at table place) { joins = joins }))
        (filter_none (is_join from name object method) (desk_at table place).joins none_leaves) ∙ with_same no_desk table place)

module _ (joiners : Joiners) (desks : Table Desk) (listed : AreListed joiners desks) (place : ℕ) (is_place : IsPlace desks place) where
  -- another desk at a place
  pub with_other : (joiners' : Joiners) (new : Desk)
      → ((topic : Topic) (at : ℕ) → at ≢ place → count_at joiners' topic at ≡ count_at joiners topic at)
      → ((topic : Topic) → count_at joiners' topic place ≡ count_by (is_of topic) new.joins)
      → AreListed joiners' (with_place desks place new)
  with_other joiners' new elsewhere here topic at = ⊎_elim
      (λ (same : at ≡ place). rw same (here topic
      ∙ ap (λ (desk : Desk). count_by (is_of topic) desk.joins) (sym (get_or-set_same desks.places place new no_desk is_place))))
      (λ (differ : at ≢ place). elsewhere topic at differ
      ∙ (listed topic at ∙ ap (λ (desk : Desk). count_by (is_of topic) desk.joins) (sym (get_or-set_other desks.places place at new no_desk differ))))
      (cases_eq at place)

  -- no more joins of a topic than a desk holds
  module _ (now : Desk) (stood : now ≡ desk_at desks place) where
    here : (topic : Topic) → count_at joiners topic place ≡ count_by (is_of topic) now.joins
    here topic = listed topic place ∙ ap (λ (desk : Desk). count_by (is_of topic) desk.joins) (sym stood)

    elsewhere : (b : Bool) (at : ℕ) → at ≢ place → ◌≡◌ {A = ℕ} (cond (b && place == at) 1 0) 0
    elsewhere b at differ = (λ i. cond (b && ne_eqb place at (λ e. differ (sym e)) i) 1 0) ∙ by b
      where
        by : (b : Bool) → ◌≡◌ {A = ℕ} (cond (b && false) 1 0) 0
        by true = refl
        by false = refl

    at_place : (b : Bool) → ◌≡◌ {A = ℕ} (cond (b && place == place) 1 0) (cond b 1 0)
    at_place b = (λ i. cond (b && eq-eqb place place refl i) 1 0) ∙ by b
      where
        by : (b : Bool) → ◌≡◌ {A = ℕ} (cond (b && true) 1 0) (cond b 1 0)
        by true = refl
        by false = refl

    -- and one fewer
    pub join_unlisted : (position : ℕ) (new : Desk) (join : Join) → position < length now.joins → join ≡ get_or now.joins position join
        → new ≡ without_join position now → (joiners' : Joiners)
        → ((topic : Topic) (at : ℕ) → count_at joiners' topic at ≡ count_at joiners topic at - cond (is_of topic join && place == at) 1 0)
        → AreListed joiners' (with_place desks place new)
    join_unlisted position new join within is rest joiners' removed = with_other joiners' new
        (λ topic at differ. removed topic at
        ∙ (ap (λ fewer. count_at joiners topic at - fewer) (elsewhere (is_of topic join) at differ) ∙ plain (count_at joiners topic at)))
        (λ topic. removed topic place
        ∙ ((λ i. here topic i - at_place (is_of topic join) i)
        ∙ (left (count_by (is_of topic) now.joins) (cond (is_of topic join) 1 0) (count_by (is_of topic) (remove now.joins position))
        (ap (λ (it : Join). count_by (is_of topic) (remove now.joins position) + cond (is_of topic it) 1 0) is
        ∙ sum_by-remove (λ join. cond (is_of topic join) 1 0) now.joins position join within)
        ∙ ap (λ (desk : Desk). count_by (is_of topic) desk.joins) (sym rest))))
      where
        plain : (n : ℕ) → n - 0 ≡ n
        plain n = omega arith

        left : (n m rest : ℕ) → rest + m ≡ n → n - m ≡ rest
        left n m rest sum = omega (arith, sum)
