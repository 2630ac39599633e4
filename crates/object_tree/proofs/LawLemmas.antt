-- Changes that are not refused keep a forest sound, and its numbers.
use Rattle.std.proofs.Common.{◌≡◌, ◌+◌, ◌==◌, ℕ, Bool, true, false, not, List, [], ◌∷◌, ◌++◌, Option, None, filter, refl, ◌∙◌}
use Rattle.std.proofs.lemmas.Bool.{cond_both}
use Rattle.std.proofs.lemmas.List.{map_push}
use Rattle.object_tree.specs.declared.row.Row.{Row}
use Rattle.object_tree.specs.Rows.{has_number, numbers}
use Rattle.object_tree.specs.Forest.{Forest, IsSound}
use Rattle.object_tree.specs.Refusing.{add_refusal, keeps_parent, set_parent_refusal}
use Rattle.object_tree.specs.Changes.{added, changed, marked, moved, orphaned, removed, reparented, with_blocked}
use Rattle.object_tree.specs.Laws.{KeepsNumbers, KeepsSound}
use Rattle.object_tree.proofs.RefusingLemmas.{add_allowed, move_allowed}
use Rattle.object_tree.proofs.NumberLemmas.{without}
use Rattle.object_tree.proofs.RowLemmas.{change_one, numbers-filter, numbers-mapped}
use Rattle.object_tree.proofs.ForestLemmas.{orphan_number, sound_added, sound_blocked, sound_empty, sound_marked, sound_moved, sound_removed}

pub sound_by_added : (forest : Forest) (parent : Option ℕ) (class : ℕ) → add_refusal forest parent ≡ None → IsSound forest → IsSound (added forest parent class)
sound_by_added forest parent class allowed sound =
    let can = add_allowed forest parent allowed in
    sound_added forest parent class sound can.number can.stamp can.room can.shallow can.above

pub sound_by_moved : (forest : Forest) (object : ℕ) (parent : Option ℕ) → set_parent_refusal forest object parent ≡ None
    → keeps_parent forest.rows object parent ≡ false → IsSound forest → IsSound (moved forest object parent)
sound_by_moved forest object parent allowed other sound =
    let can = move_allowed forest object parent allowed other in
    sound_moved forest object parent sound can.there can.stamp can.above can.shallow

sound_by_reparented : (forest : Forest) (object : ℕ) (parent : Option ℕ) → set_parent_refusal forest object parent ≡ None → IsSound forest
    → IsSound (reparented forest object parent)
sound_by_reparented forest object parent allowed sound = cond_both (keeps_parent forest.rows object parent) forest (moved forest object parent) IsSound
    (λ _. sound) (λ other. sound_by_moved forest object parent allowed other sound)

pub keeps_sound : KeepsSound
keeps_sound = record {
  at_first = sound_empty;
  by_added = sound_by_added;
  by_reparented = sound_by_reparented;
  by_marked = λ forest object sound. sound_marked forest object sound;
  by_blocked = λ forest object on sound. sound_blocked forest object on sound;
  by_removed = λ forest object sound. sound_removed object forest sound;
}

-- a change of one row that keeps its number
numbers_changed : (change : Row → Row) → ((row : Row) → (change row).number ≡ row.number) → (object : ℕ) (rows : List Row)
    → numbers (changed change object rows) ≡ numbers rows
numbers_changed change keeps object rows = numbers-mapped (change_one change object)
    (λ row. cond_both (has_number object row) (change row) row (λ r. r.number ≡ row.number) (λ _. keeps row) (λ _. refl)) rows

numbers_by_added : (forest : Forest) (parent : Option ℕ) (class : ℕ)
    → numbers (added forest parent class).rows ≡ numbers forest.rows ++ (forest.last_number + 1) ∷ []
unfolding added
numbers_by_added forest parent class = map_push (λ (row : Row). row.number) forest.rows
    (record { number = forest.last_number + 1; class = class; parent = parent; stamp = forest.last_stamp + 1; dying = false; blocked = false })

numbers_by_reparented : (forest : Forest) (object : ℕ) (parent : Option ℕ) → numbers (reparented forest object parent).rows ≡ numbers forest.rows
unfolding moved
numbers_by_reparented forest object parent = cond_both (keeps_parent forest.rows object parent) forest (moved forest object parent)
    (λ new. numbers new.rows ≡ numbers forest.rows)
    (λ _. refl) (λ _. numbers_changed (λ row. record row { parent = parent; stamp = forest.last_stamp + 1 }) (λ row. refl) object forest.rows)

numbers_by_marked : (forest : Forest) (object : ℕ) → numbers (marked forest object).rows ≡ numbers forest.rows
unfolding marked
numbers_by_marked forest object = numbers_changed (λ row. record row { dying = true }) (λ row. refl) object forest.rows

numbers_by_blocked : (forest : Forest) (object : ℕ) (on : Bool) → numbers (with_blocked forest object on).rows ≡ numbers forest.rows
unfolding with_blocked
numbers_by_blocked forest object on = numbers_changed (λ row. record row { blocked = on }) (λ row. refl) object forest.rows

numbers_by_removed : (forest : Forest) (object : ℕ) → numbers (removed forest object).rows ≡ filter (λ number. not (number == object)) (numbers forest.rows)
unfolding removed
numbers_by_removed forest object = numbers-mapped (orphaned object) (orphan_number object) (without object forest.rows)
    ∙ numbers-filter (λ number. not (number == object)) forest.rows

pub keeps_numbers : KeepsNumbers
keeps_numbers = record {
  by_added = numbers_by_added;
  by_reparented = numbers_by_reparented;
  by_marked = numbers_by_marked;
  by_blocked = numbers_by_blocked;
  by_removed = numbers_by_removed;
}
