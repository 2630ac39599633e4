use Rattle.std.proofs.Common.{◌≡◌, ◌<◌, ◌∙◌, ℕ, [], Option, length, refl, sym, ap, subst}
use Rattle.std.specs.List.{Contains}
use Rattle.std.proofs.lemmas.List.Elements.{All-contains}
use Rattle.shared_rows.specs.Table.{with_place}
use Rattle.shared_rows.proofs.ForCallers.{changes_same, changes_with, with_there}
use Rattle.shared_rows.specs.Rows.{rows_at, with_row}
use Rattle.shared_rows.specs.Links.{Linked, with_link, without_link}
use Rattle.object_tree.specs.declared.child.Child.{Child}
use Rattle.object_tree.specs.declared.row.Row.{Row}
use Rattle.object_tree.specs.Children.{child_cmp, child_of, rows_of}
use Rattle.object_tree.proofs.NumberLemmas.{unchanged}
use Rattle.object_tree.proofs.KeyLemmas.{absent_row}
use Rattle.object_tree.proofs.ChildLemmas.{links_put}
use Rattle.object_tree.proofs.KeptLemmas.{Shared, stands_under}
use Rattle.object_tree.proofs.moving.hang.Goals as goal

abbrev hangs : Option ℕ → ℕ → Row → Row
hangs parent stamp row = record row { parent = parent; stamp = stamp }

pub returns-in_default-clause-elsewhere : goal.returns-in_default-clause-elsewhere
returns-in_default-clause-elsewhere c = changes_same [] c.args.rows.now c.args.rows.now c.args.place refl

pub returns-in_default-clause-rows : goal.returns-in_default-clause-rows
returns-in_default-clause-rows c = sym (unchanged (hangs c.args.parent c.args.stamp) c.args.object (rows_of (rows_at c.args.rows.now c.args.place))
    (absent_row (rows_at c.args.rows.now c.args.place) c.args.object c.in_default.ensures.found)).0

pub replace-requires-2 : goal.replace-requires-2
replace-requires-2 c = subst (Contains c.args.children.now.links) (sym c.child_of.ensures)
    (All-contains (λ r. Contains c.args.children.now.links (child_of r))
    (rows_of (rows_at c.args.rows.now c.args.place)) c.get-row.result.now c.requires.linked.each
    (stands_under c.get-row.ensures.sound c.get-row.ensures.row c.in-Some.ensures.stands).there)

pub returns-clause-elsewhere : goal.returns-clause-elsewhere
returns-clause-elsewhere c = changes_with [] c.args.rows.now c.replace.new.self c.args.place
    (with_row (rows_at c.args.rows.now c.args.place) c.in-Some.key (hangs c.args.parent c.args.stamp c.get-row.result.now)) c.requires.place
    c.replace.ensures.new

-- what stands at a place then
there : (old new : Shared) (place key : ℕ) (row : Row) → place < length old.places → new ≡ with_place old place (with_row (rows_at old place) key row)
    → rows_at new place ≡ with_row (rows_at old place) key row
there old new place key row is_place is = ap (λ t. rows_at t place) is ∙ with_there [] old place (with_row (rows_at old place) key row) is_place

pub returns-clause-rows : goal.returns-clause-rows
returns-clause-rows c = ap rows_of (there c.args.rows.now c.replace.new.self c.args.place c.in-Some.key
    (hangs c.args.parent c.args.stamp c.get-row.result.now) c.requires.place c.replace.ensures.new)
    ∙ (stands_under c.get-row.ensures.sound c.get-row.ensures.row c.in-Some.ensures.stands).put (hangs c.args.parent c.args.stamp)

pub returns-clause-linked : goal.returns-clause-linked
returns-clause-linked c = rw (
  there c.args.rows.now c.replace.new.self c.args.place c.in-Some.key
      (hangs c.args.parent c.args.stamp c.get-row.result.now) c.requires.place c.replace.ensures.new,
  ap (λ (l : Linked Child). l.links) c.replace-2.ensures ∙ λ i. with_link child_cmp (without_link child_cmp c.args.children.now.links (c.child_of.ensures i))
      (c.child_of-2.ensures i),
)
    (links_put (stands_under c.get-row.ensures.sound c.get-row.ensures.row c.in-Some.ensures.stands) c.requires.linked (hangs c.args.parent c.args.stamp))
