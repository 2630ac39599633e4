-- Joins that are taken out one after another, from the last to the first.
use Rattle.std.proofs.Common.{◌≡◌, ◌∙◌, ℕ, zero, suc, ◌<◌, ◌≤◌, Bool, true, false, not, List, [], ◌∷◌, drop, filter, remove, length, get_or, refl, sym, ap}
use Rattle.std.proofs.Common.{subst, arith}
use Rattle.std.specs.List.{count_by, list_any}
use Rattle.std.proofs.lemmas.List.Edits.{length-remove}
use Rattle.shared_rows.specs.Table.{ChangesAt, IsPlace, Table}
use Rattle.shared_rows.proofs.ForCallers.{changes_open, changes_same, changes_twice, changes_with, with_there, with_twice}
use Rattle.publish_board.specs.declared.join.Going.{Going}
use Rattle.publish_board.specs.declared.join.Going.TheVariants.{All, Object}
use Rattle.publish_board.specs.declared.join.Join.{Join}
use Rattle.publish_board.specs.declared.joiners.Joiners.{Joiners}
use Rattle.publish_board.specs.Desk.{Desk, no_desk, without_object}
use Rattle.publish_board.specs.Table.{desk_at, with_desk}
use Rattle.publish_board.specs.Going.{goes, gone}
use Rattle.publish_board.specs.Inside.{without_join, without_publications}
use Rattle.publish_board.specs.Joiners.{AreListed}
use Rattle.publish_board.specs.Topics.{is_of}
use Rattle.publish_board.proofs.ListedLemmas.{filter_none, with_other}

module _ (p : Join → Bool) where
  -- one that passes need not stand there
  filter_removed : (joins : List Join) (position : ℕ) (d : Join) → position < length joins → p (get_or joins position d) ≡ true
      → filter (λ join. not (p join)) (remove joins position) ≡ filter (λ join. not (p join)) joins
  filter_removed [] position d within passes = absurd (omega arith)
  filter_removed (join ∷ joins) zero d within passes = rw passes refl
  filter_removed (join ∷ joins) (suc position) d within passes = by (p join) refl (filter_removed joins position d (omega arith) passes)
    where
      by : (b : Bool) → p join ≡ b → filter (λ j. not (p j)) (remove joins position) ≡ filter (λ j. not (p j)) joins
          → filter (λ j. not (p j)) (join ∷ remove joins position) ≡ filter (λ j. not (p j)) (join ∷ joins)
      by true e rest = rw e rest
      by false e rest = rw e (ap (λ l. join ∷ l) rest)

  -- none behind a position, with the one at the position that does not pass
  any_behind : (joins : List Join) (position : ℕ) (d : Join) → position < length joins → p (get_or joins position d) ≡ false
      → list_any p (drop (suc position) joins) ≡ false → list_any p (drop position joins) ≡ false
  any_behind [] position d within fails none = absurd (omega arith)
  any_behind (join ∷ joins) zero d within fails none = rw fails none
  any_behind (join ∷ joins) (suc position) d within fails none = any_behind joins position d (omega arith) fails none

drop_removed : (joins : List Join) (position : ℕ) → position < length joins → drop position (remove joins position) ≡ drop (suc position) joins
drop_removed [] position within = absurd (omega arith)
drop_removed (join ∷ joins) zero within = refl
drop_removed (join ∷ joins) (suc position) within = drop_removed joins position (omega arith)

-- those from a position on are dealt with
pub record IsUnderWay (old now : Table Desk) (place : ℕ) (going : Going) (position : ℕ) : Type 0 where
  pub only : ChangesAt no_desk place old now
  pub rest : gone going (desk_at now place) ≡ gone going (desk_at old place)
  pub behind : list_any (goes going) (drop position (desk_at now place).joins) ≡ false
  pub within : position ≤ length (desk_at now place).joins

module _ (old : Table Desk) (place : ℕ) (going : Going) (is_place : IsPlace old place) where
  pub begins : (count : ℕ) → count ≡ length (desk_at old place).joins → IsUnderWay old old place going count
  begins count is = record {
    only = changes_same no_desk old old place refl;
    rest = refl;
    behind = ap (list_any (goes going)) (none_left (desk_at old place).joins count (omega (arith, is)));
    within = omega (arith, is);
  }
    where
      none_left : (joins : List Join) (count : ℕ) → length joins ≤ count → drop count joins ≡ []
      none_left [] zero past = refl
      none_left [] (suc count) past = refl
      none_left (join ∷ joins) zero past = absurd (omega arith)
      none_left (join ∷ joins) (suc count) past = none_left joins count (omega arith)

  module _ (now : Table Desk) (position : ℕ) (under : IsUnderWay old now place going position) where
    pub there : IsPlace now place
    there = changes_open no_desk old now place under.only is_place

    pub ends : position ≤ 0 → now ≡ with_desk old place (gone going (desk_at old place))
    ends over =
        let all : list_any (goes going) (drop 0 (desk_at now place).joins) ≡ false =
        subst (λ n. list_any (goes going) (drop n (desk_at now place).joins) ≡ false) (zero_is position over) under.behind in
        let stays : gone going (desk_at now place) ≡ desk_at now place =
        ap (λ (joins : List Join). let desk : Desk = record (desk_at now place) { joins = joins } in desk)
        (filter_none (goes going) (desk_at now place).joins all) in
        under.only ∙ ap (with_desk old place) (sym stays ∙ under.rest)
      where
        zero_is : (n : ℕ) → n ≤ 0 → n ≡ 0
        zero_is n low = omega (arith, low)

  module _ (now : Table Desk) (position : ℕ) (under : IsUnderWay old now place going (suc position)) (join : Join)
      (is : join ≡ get_or (desk_at now place).joins position join) where
    pub passes : goes going join ≡ false → IsUnderWay old now place going position
    passes stays = record {
      only = under.only;
      rest = under.rest;
      behind = any_behind (goes going) (desk_at now place).joins position join (omega (arith, under.within)) (ap (goes going) (sym is) ∙ stays) under.behind;
      within = omega (arith, under.within);
    }

    pub takes : goes going join ≡ true → (new : Table Desk) → new ≡ with_desk now place (without_join position (desk_at now place))
        → IsUnderWay old new place going position
    takes goes_out new e = record {
      only = changes_twice no_desk old now new place under.only (changes_with no_desk now new place (without_join position (desk_at now place)) is_open e);
      rest = ap (gone going) seen ∙ (ap (λ (joins : List Join). let desk : Desk = record (desk_at now place) { joins = joins } in desk)
          (filter_removed (goes going) (desk_at now place).joins position join inside (ap (goes going) (sym is) ∙ goes_out)) ∙ under.rest);
      behind = ap (λ (desk : Desk). list_any (goes going) (drop position desk.joins)) seen
          ∙ (ap (list_any (goes going)) (drop_removed (desk_at now place).joins position inside) ∙ under.behind);
      within = omega (arith, length-remove (desk_at now place).joins position inside, ap (λ (desk : Desk). length desk.joins) seen, under.within);
    }
      where
        is_open : IsPlace now place
        is_open = changes_open no_desk old now place under.only is_place

        inside : position < length (desk_at now place).joins
        inside = omega (arith, under.within)

        seen : desk_at new place ≡ without_join position (desk_at now place)
        seen = ap (λ (t : Table Desk). desk_at t place) e ∙ with_there no_desk now place (without_join position (desk_at now place)) is_open

all_gone : (joins : List Join) → filter (λ join. not (goes All join)) joins ≡ []
all_gone [] = refl
all_gone (join ∷ joins) = all_gone joins

-- once all joins are out, an empty desk is put at the place
module _ (joiners : Joiners) (old now : Table Desk) (place : ℕ) (is_place : IsPlace old place)
    (out : now ≡ with_desk old place (gone All (desk_at old place))) where
  pub cleared : AreListed joiners now → AreListed joiners (with_desk now place no_desk)
  cleared listed = with_other joiners now listed place
      (changes_open no_desk old now place (changes_with no_desk old now place (gone All (desk_at old place)) is_place out) is_place) joiners no_desk
      (λ topic at differ. refl) (λ topic.
      listed topic place ∙ ap (λ (desk : Desk). count_by (is_of topic) desk.joins)
      (ap (λ (t : Table Desk). desk_at t place) out ∙ with_there no_desk old place (gone All (desk_at old place)) is_place)
      ∙ ap (count_by (is_of topic)) (all_gone (desk_at old place).joins))

-- another desk is put at the place then
pub put_after : (old now : Table Desk) (place : ℕ) (first last : Desk) → now ≡ with_desk old place first → with_desk now place last ≡ with_desk old place last
put_after old now place first last e = ap (λ (t : Table Desk). with_desk t place last) e ∙ with_twice old place first last

-- and what its object publishes is taken out of it
pub dropped : (old now : Table Desk) (place object : ℕ) → IsPlace old place → now ≡ with_desk old place (gone (Object object) (desk_at old place))
    → (desk last : Desk) → desk ≡ desk_at now place → last ≡ without_publications object desk
    → with_desk now place last ≡ with_desk old place (without_object object (desk_at old place))
dropped old now place object is_place out desk last stood e =
    put_after old now place (gone (Object object) (desk_at old place)) last out
    ∙ ap (with_desk old place) (e ∙ ap (without_publications object)
    (stood ∙ (ap (λ (t : Table Desk). desk_at t place) out ∙ with_there no_desk old place (gone (Object object) (desk_at old place)) is_place)))
