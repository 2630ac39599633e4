-- How many joins are listed under which topics, after a change of one list.
use Rattle.std.proofs.Common.{◌≡◌, ◌∙◌, ℕ, ◌+◌, ◌-◌, ◌==◌, ◌&&◌, ◌<◌, suc, Result, Ok, Err, OnOk, OnErr, Bool, true, false, cond, List, [], ◌∷◌}
use Rattle.std.proofs.Common.{Option, Some, None, length, refl, sym, ap, arith}
use Rattle.std.specs.Prelude.{bytes_eq}
use Rattle.std.specs.Option.{option_eq, option_map_or}
use Rattle.std.specs.Map.{lookup}
use Rattle.std.proofs.lemmas.Bool.{cond-false, cond-true, ne_eqb}
use Rattle.std.proofs.lemmas.Slice.Eq.{bytes_eq-Decides}
use Rattle.indexmap.specs.IndexMap.{IndexMap, IsUnchanged, Updates, get}
use Rattle.shared_rows.specs.Links.{Linked, with_link}
use Rattle.publish_board.specs.declared.listed.Listed.{Listed}
use Rattle.publish_board.specs.declared.topic.Topic.{Topic}
use Rattle.publish_board.specs.Filled.{AreFilled}
use Rattle.publish_board.specs.Joiners.{is_pair}
use Rattle.publish_board.specs.Listed.{count_in, listed_cmp}
use Rattle.publish_board.specs.Topics.{is_same}

-- two topics that are one
pub same_topic : (topic other : Topic) → is_same topic other ≡ true → topic ≡ other
same_topic topic other e = by topic.name other.name (bytes_eq topic.from other.from) refl e
  where
    by : (name its : Option (List ℕ)) (same : Bool) → bytes_eq topic.from other.from ≡ same → (same && option_eq bytes_eq name its) ≡ true
        → ◌≡◌ {A = Topic} (record { from = topic.from; name = name }) (record { from = other.from; name = its })
    by None None true f h = λ i. record { from = (bytes_eq-Decides topic.from other.from).0 f i; name = None }
    by (Some name) (Some its) true f h = λ i. record {
      from = (bytes_eq-Decides topic.from other.from).0 f i;
      name = Some ((bytes_eq-Decides name its).0 h i);
    }
    by None (Some its) true f h = absurd (cc)
    by (Some name) None true f h = absurd (cc)
    by name its false f h = absurd (cc)

-- does a list stand there without a place
abbrev pub empty_in : Option (Linked Listed) → Bool
empty_in found = option_map_or (λ list. length list.links == 0) found false

-- how many joins of a place are in the list, where there is one
abbrev pub count_for : ℕ → Option (Linked Listed) → ℕ
count_for place found = option_map_or (λ list. count_in list.links place) found 0

module _ {S : Type 0} (old new : IndexMap Topic (Linked Listed) S) (topic : Topic) (place : ℕ) (now : Option (Linked Listed))
    (updates : (other : Topic) → get is_same new other ≡ cond (is_same topic other) now (get is_same old other)) where
  changed : (f : ℕ → ℕ → ℕ) → ((n : ℕ) → f n 0 ≡ n) → ((at : ℕ) → count_for at now ≡ f (count_for at (get is_same old topic)) (cond (place == at) 1 0))
      → (other : Topic) (at : ℕ) → count_for at (get is_same new other) ≡ f (count_for at (get is_same old other)) (cond (is_pair topic place other at) 1 0)
  changed f neutral here other at = by (is_same topic other) refl
    where
      by : (same : Bool) → is_same topic other ≡ same
          → count_for at (get is_same new other) ≡ f (count_for at (get is_same old other)) (cond (is_pair topic place other at) 1 0)
      by true e =
          ap (count_for at) (updates other ∙ cond-true (is_same topic other) now (get is_same old other) e)
          ∙ (here at ∙ (λ i. f (count_for at (get is_same old (same_topic topic other e i))) (cond (sym e i && place == at) 1 0)))
      by false e =
          ap (count_for at) (updates other ∙ cond-false (is_same topic other) now (get is_same old other) e)
          ∙ (sym (neutral (count_for at (get is_same old other)))
          ∙ (λ i. f (count_for at (get is_same old other)) (cond (sym e i && place == at) 1 0)))

  -- one more join under a topic
  pub listed_more : (before : Option (Linked Listed)) → before ≡ get is_same old topic
      → ((at : ℕ) → count_for at now ≡ count_for at before + cond (place == at) 1 0) → (other : Topic) (at : ℕ)
      → count_for at (get is_same new other) ≡ count_for at (get is_same old other) + cond (is_pair topic place other at) 1 0
  listed_more before stood here = changed (λ n more. n + more) (λ n. omega arith)
      (λ at. here at ∙ ap (λ found. count_for at found + cond (place == at) 1 0) stood)

  -- and one fewer
  pub listed_fewer : (before : Option (Linked Listed)) → before ≡ get is_same old topic
      → ((at : ℕ) → count_for at now ≡ count_for at before - cond (place == at) 1 0) → (other : Topic) (at : ℕ)
      → count_for at (get is_same new other) ≡ count_for at (get is_same old other) - cond (is_pair topic place other at) 1 0
  listed_fewer before stood here = changed (λ n fewer. n - fewer) (λ n. omega arith)
      (λ at. here at ∙ ap (λ found. count_for at found - cond (place == at) 1 0) stood)

  -- a list that is not empty stands there, or none
  pub filled_still : AreFilled old → empty_in now ≡ false → AreFilled new
  filled_still filled full other = by (is_same topic other) refl
    where
      by : (same : Bool) → is_same topic other ≡ same → empty_in (get is_same new other) ≡ false
      by true e = ap empty_in (updates other ∙ cond-true (is_same topic other) now (get is_same old other) e) ∙ full
      by false e = ap empty_in (updates other ∙ cond-false (is_same topic other) now (get is_same old other) e) ∙ filled other

  -- the list that stood there
  pub listed_same : get is_same old topic ≡ now → (other : Topic) (at : ℕ) → count_for at (get is_same new other) ≡ count_for at (get is_same old other)
  listed_same stood other at = by (is_same topic other) refl
    where
      by : (same : Bool) → is_same topic other ≡ same → count_for at (get is_same new other) ≡ count_for at (get is_same old other)
      by true e = ap (count_for at) (updates other ∙ (cond-true (is_same topic other) now (get is_same old other) e
          ∙ (sym stood ∙ (λ i. get is_same old (same_topic topic other e i)))))
      by false e = ap (count_for at) (updates other ∙ cond-false (is_same topic other) now (get is_same old other) e)

-- where no list stands there is nothing to take
pub none_listed : {S : Type 0} (old : IndexMap Topic (Linked Listed) S) (topic : Topic) (place : ℕ) → None ≡ get is_same old topic → (other : Topic) (at : ℕ)
    → count_for at (get is_same old other) ≡ count_for at (get is_same old other) - cond (is_pair topic place other at) 1 0
none_listed old topic place stood other at = by (is_same topic other) refl
  where
    by : (same : Bool) → is_same topic other ≡ same
        → count_for at (get is_same old other) ≡ count_for at (get is_same old other) - cond (is_pair topic place other at) 1 0
    by true e =
        let none : count_for at (get is_same old other) ≡ 0 = sym (ap (count_for at) (stood ∙ (λ i. get is_same old (same_topic topic other e i)))) in
        none ∙ (zero_less (cond (is_pair topic place other at) 1 0) ∙ ap (λ n. n - cond (is_pair topic place other at) 1 0) (sym none))
      where
        zero_less : (n : ℕ) → 0 ≡ 0 - n
        zero_less n = omega arith
    by false e = less_zero (count_for at (get is_same old other))
        ∙ (λ i. count_for at (get is_same old other) - cond (sym e i && place == at) 1 0)
      where
        less_zero : (n : ℕ) → n ≡ n - 0
        less_zero n = omega arith

not_zero : (n : ℕ) → 0 < n → (n == 0) ≡ false
not_zero n some = ne_eqb n 0 (λ (e : n ≡ 0). omega (arith, some, e))

-- a list with one more join, or as it was
pub full_after : {T E : Type 0} (result : Result T E) (old now : Linked Listed) → OnOk result (0 < length now.links) → OnErr result (now ≡ old)
    → empty_in (Some old) ≡ false → empty_in (Some now) ≡ false
full_after (Ok value) old now some err full = not_zero (length now.links) some
full_after (Err error) old now some err full = ap (λ list. empty_in (Some list)) err ∙ full

pub not_empty : (list : Linked Listed) (was : Bool) → was ≡ false → (list.links ≡ [] → was ≡ true) → empty_in (Some list) ≡ false
not_empty list was not_was none = by list.links none
  where
    by : (links : List Listed) → (links ≡ [] → was ≡ true) → (length links == 0) ≡ false
    by [] none = absurd (cc (none refl, not_was))
    by (listed ∷ links) none = not_zero (suc (length links)) (omega arith)

-- a new list, of one place
pub alone : (links after : List Listed) (place : ℕ) → links ≡ [] → after ≡ with_link listed_cmp links (record { place = place; further = 0 })
    → after ≡ record { place = place; further = 0 } ∷ []
alone links after place none e = e ∙ ap (λ links. with_link listed_cmp links (record { place = place; further = 0 })) none

pub one_alone : (list : Linked Listed) (place : ℕ) → list.links ≡ record { place = place; further = 0 } ∷ [] → (at : ℕ)
    → count_for at (Some list) ≡ count_for at None + cond (place == at) 1 0
one_alone list place is at = ap (λ links. count_in links at) is ∙ by (place == at)
  where
    by : (here : Bool) → option_map_or (λ (listed : Listed). listed.further + 1) (cond here (Some (record { place = place; further = 0 })) None) 0
        ≡ 0 + cond here 1 0
    by true = refl
    by false = refl

pub filled_inserted : {S T E : Type 0} (result : Result T E) (old new : IndexMap Topic (Linked Listed) S) (topic : Topic) (list : Linked Listed)
    → OnOk result (Updates is_same old new topic (Some list)) → OnErr result (IsUnchanged old new) → AreFilled old → empty_in (Some list) ≡ false
    → AreFilled new
filled_inserted (Ok value) old new topic list updates same filled full = filled_still old new topic 0 (Some list) updates.0 filled full
filled_inserted (Err error) old new topic list updates same filled full = λ other. ap (λ entries. empty_in (lookup (is_same other) entries)) same ∙ filled other

-- of two changes under one topic the last counts
pub over : {S : Type 0} (old middle new : IndexMap Topic (Linked Listed) S) (topic : Topic) (first last : Option (Linked Listed))
    → ((other : Topic) → get is_same middle other ≡ cond (is_same topic other) first (get is_same old other))
    → ((other : Topic) → get is_same new other ≡ cond (is_same topic other) last (get is_same middle other))
    → (other : Topic) → get is_same new other ≡ cond (is_same topic other) last (get is_same old other)
over old middle new topic first last before after other = after other
    ∙ (ap (cond (is_same topic other) last) (before other) ∙ twice (is_same topic other) (get is_same old other))
  where
    twice : (same : Bool) (found : Option (Linked Listed)) → cond same last (cond same first found) ≡ cond same last found
    twice true found = refl
    twice false found = refl
