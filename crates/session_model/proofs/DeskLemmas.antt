-- What each change leaves of what a session publishes and joins.
use Rattle.std.proofs.Common.{◌≡◌, ◌<◌, ◌≤◌, ◌==◌, ◌||◌, bytes_eq, ℕ, Bool, true, false, not, cond, List, [], ◌∷◌, ◌++◌, Some, None, filter, length, nat_le}
use Rattle.std.proofs.Common.{refl, sym, ap, ◌∙◌, arith}
use Rattle.std.specs.List.{All, AllByRecursion, list_any}
use Rattle.std.proofs.lemmas.Bool.Decides.{nat_tests}
use Rattle.std.proofs.lemmas.List.{length-append}
use Rattle.std.proofs.lemmas.List.Elements.{All-filter, All-from_recursion, All-push, All-weaker}
use Rattle.std.proofs.lemmas.List.Kept.{AllPairs-filter}
use Rattle.std.proofs.lemmas.List.Quantifiers.{all_pairs_push}
use Rattle.std.proofs.lemmas.List.Sums.{count_by-le-length, length-filter}
use Rattle.session_model.proofs.Common.{DoesNotFit, Limit, Kind, fits, is_there, numbers, Join, Publication, Desk, OfDesk, State}
use Rattle.plain_types.specs.declared.code.Code.TheVariants.{NameTaken, OwnSession}
use Rattle.publish_board.specs.Desk.{IsSound, join_refusal, with_join, left, no_desk, publish_refusal, published, unpublished, without_object}
use Rattle.publish_board.specs.Rows.{has_name, is_join}
use Rattle.session_model.proofs.ConnectionLemmas.{there_more, there_same, there_without}
use Rattle.session_model.proofs.FilterLemmas.{all_left}

pub sound_bare : IsSound no_desk
sound_bare = record { few_publications = omega arith; few_joins = omega arith; distinct = λ i j default below within. absurd (omega arith) }

-- fewer rows are no more of them
fewer : {X : Type 0} (n : ℕ) (test : X → Bool) (rows : List X) → length rows ≤ n → length (filter test rows) ≤ n
fewer n test rows few = omega (arith, few, length-filter test rows, count_by-le-length test rows)

abbrev Apart : Publication → Publication → Type 0
Apart earlier later = has_name later.name earlier ≡ false

-- where no row has a name, each has another
each_other : (name : List ℕ) (rows : List Publication) → list_any (has_name name) rows ≡ false → All (λ row. has_name name row ≡ false) rows
each_other name rows none = All-from_recursion (λ row. has_name name row ≡ false) rows (by rows none)
  where
    one : (passed : Bool) (rest : List Publication) → (passed || list_any (has_name name) rest) ≡ false
        → (passed ≡ false) × (list_any (has_name name) rest ≡ false)
    one true rest e = absurd (cc)
    one false rest e = (refl, e)

    by : (rows : List Publication) → list_any (has_name name) rows ≡ false → AllByRecursion (λ row. has_name name row ≡ false) rows
    by [] none = tt
    by (row ∷ rest) none = let parts = one (has_name name row) rest none in (parts.0, by rest parts.1)

pub sound_published : {desk : Desk} (row : Publication) → publish_refusal desk row.name ≡ None → IsSound desk → IsSound (published desk row)
sound_published {desk} row passed sound = by (list_any (has_name row.name) desk.publications) (nat_le 1024 (length desk.publications)) refl refl passed
  where
    by : (taken full : Bool) → list_any (has_name row.name) desk.publications ≡ taken → nat_le 1024 (length desk.publications) ≡ full
        → cond taken (Some NameTaken) (cond full (Some Limit) None) ≡ None → IsSound (published desk row)
    by true full is room e = absurd (cc)
    by false true is room e = absurd (cc)
    by false false is room e =
        let few : length desk.publications < 1024 = grind (arith, nat_tests, room) in
        record {
          few_publications = omega (arith, few, length-append desk.publications (row ∷ []));
          few_joins = sound.few_joins;
          distinct = all_pairs_push Apart desk.publications row sound.distinct (each_other row.name desk.publications is);
        }

pub sound_unpublished : {desk : Desk} (name : List ℕ) → IsSound desk → IsSound (unpublished desk name)
sound_unpublished {desk} name sound = record {
  few_publications = fewer 1024 (λ row. not (has_name name row)) desk.publications sound.few_publications;
  few_joins = sound.few_joins;
  distinct = AllPairs-filter Apart (λ row. not (has_name name row)) desk.publications sound.distinct;
}

pub sound_joined : (own : List ℕ) {desk : Desk} (join : Join) (wanted : List Kind) → join_refusal own desk join wanted ≡ None → IsSound desk
    → IsSound (with_join desk join)
sound_joined own {desk} join wanted passed sound = by (not (fits join.kinds wanted)) (bytes_eq join.from own) (nat_le 1024 (length desk.joins)) refl passed
  where
    by : (unfit own' full : Bool) → nat_le 1024 (length desk.joins) ≡ full
        → cond unfit (Some DoesNotFit) (cond own' (Some OwnSession) (cond full (Some Limit) None)) ≡ None → IsSound (with_join desk join)
    by true own' full room e = absurd (cc)
    by false true full room e = absurd (cc)
    by false false true room e = absurd (cc)
    by false false false room e =
        let few : length desk.joins < 1024 = grind (arith, nat_tests, room) in
        record { few_publications = sound.few_publications; few_joins = omega (arith, few, length-append desk.joins (join ∷ [])); distinct = sound.distinct }

pub sound_left : {desk : Desk} (from name : List ℕ) (object method : ℕ) → IsSound desk → IsSound (left desk from name object method)
sound_left {desk} from name object method sound = record {
  few_publications = sound.few_publications;
  few_joins = fewer 1024 (λ join. not (is_join from name object method join)) desk.joins sound.few_joins;
  distinct = sound.distinct;
}

pub sound_withdrawn : (object : ℕ) {desk : Desk} → IsSound desk → IsSound (without_object object desk)
sound_withdrawn object {desk} sound = record {
  few_publications = fewer 1024 (λ row. not (row.object == object)) desk.publications sound.few_publications;
  few_joins = fewer 1024 (λ join. not (join.object == object)) desk.joins sound.few_joins;
  distinct = AllPairs-filter Apart (λ row. not (row.object == object)) desk.publications sound.distinct;
}

-- what holds of each object of a desk
pub each_of : (P Q : ℕ → Type 0) → ((number : ℕ) → P number → Q number) → {desk : Desk} → OfDesk P desk → OfDesk Q desk
each_of P Q weaker {desk} all = record {
  publications = All-weaker (λ (row : Publication). P row.object) (λ (row : Publication). Q row.object)
      (λ row. weaker row.object) desk.publications all.publications;
  joins = All-weaker (λ (join : Join). P join.object) (λ (join : Join). Q join.object) (λ join. weaker join.object) desk.joins all.joins;
}

module _ (P : ℕ → Type 0) (desk : Desk) (all : OfDesk P desk) where
  pub of_published : (row : Publication) → P row.object → OfDesk P (published desk row)
  of_published row new = record { publications = All-push (λ (row : Publication). P row.object) desk.publications row all.publications new; joins = all.joins }

  pub of_joined : (join : Join) → P join.object → OfDesk P (with_join desk join)
  of_joined join new = record { publications = all.publications; joins = All-push (λ (join : Join). P join.object) desk.joins join all.joins new }

  pub of_unpublished : (name : List ℕ) → OfDesk P (unpublished desk name)
  of_unpublished name = record {
    publications = All-filter (λ row. not (has_name name row))
        (λ (row : Publication). P row.object) desk.publications all.publications;
    joins = all.joins;
  }

  pub of_left : (from name : List ℕ) (object method : ℕ) → OfDesk P (left desk from name object method)
  of_left from name object method = record {
    publications = all.publications;
    joins = All-filter (λ join. not (is_join from name object method join))
        (λ (join : Join). P join.object) desk.joins all.joins;
  }

  pub of_withdrawn : (object : ℕ) → OfDesk P (without_object object desk)
  of_withdrawn object = record {
    publications = All-filter (λ (row : Publication). not (row.object == object)) (λ row. P row.object) desk.publications all.publications;
    joins = All-filter (λ (join : Join). not (join.object == object)) (λ join. P join.object) desk.joins all.joins;
  }

-- each object of the desk that is left when one is taken out is another
pub of_others : (P : ℕ → Type 0) {desk : Desk} (object : ℕ) → OfDesk P desk
    → OfDesk (λ number. P number × ((number == object) ≡ false)) (without_object object desk)
of_others P {desk} object all = record {
  publications = all_left (λ (row : Publication). P row.object) (λ (row : Publication). row.object == object) desk.publications all.publications;
  joins = all_left (λ (join : Join). P join.object) (λ (join : Join). join.object == object) desk.joins all.joins;
}

-- the objects stand still where the numbers of objects stay the same
pub desk_same : (old new : State) → numbers new.forest.rows ≡ numbers old.forest.rows → {desk : Desk}
    → OfDesk (λ number. is_there old.forest.rows number ≡ true) desk → OfDesk (λ number. is_there new.forest.rows number ≡ true) desk
desk_same old new same = each_of _ _ (there_same old new same)

-- where one more number is there
pub desk_more : (old new : State) (number : ℕ) → numbers new.forest.rows ≡ numbers old.forest.rows ++ number ∷ [] → {desk : Desk}
    → OfDesk (λ number. is_there old.forest.rows number ≡ true) desk → OfDesk (λ number. is_there new.forest.rows number ≡ true) desk
desk_more old new number more = each_of _ _ (there_more old new number more)

-- and where a number goes that is not named
pub desk_without : (old new : State) (gone : ℕ) → numbers new.forest.rows ≡ filter (λ key. not (key == gone)) (numbers old.forest.rows) → {desk : Desk}
    → OfDesk (λ number. (number == gone) ≡ false) desk
    → OfDesk (λ number. is_there old.forest.rows number ≡ true) desk → OfDesk (λ number. is_there new.forest.rows number ≡ true) desk
desk_without old new gone fewer others there = record {
  publications = λ index default within. there_without old new gone fewer _ (others.publications index default within)
      (there.publications index default within);
  joins = λ index default within. there_without old new gone fewer _ (others.joins index default within) (there.joins index default within);
}

-- no join passes a test after some were taken out that did not pass it before
pub fewer_pass : {X : Type 0} (test keep : X → Bool) (rows : List X) → list_any test (filter keep rows) ≡ true → list_any test rows ≡ true
fewer_pass test keep [] e = e
fewer_pass {X} test keep (row ∷ rest) e = by (keep row) (test row) refl e (fewer_pass test keep rest)
  where
    by : (kept passed : Bool) → test row ≡ passed → list_any test (cond kept (row ∷ filter keep rest) (filter keep rest)) ≡ true
        → (list_any test (filter keep rest) ≡ true → list_any test rest ≡ true) → (passed || list_any test rest) ≡ true
    by kept true is e later = refl
    by true false is e later = later (sym (ap (λ b. b || list_any test (filter keep rest)) is) ∙ e)
    by false false is e later = later e
