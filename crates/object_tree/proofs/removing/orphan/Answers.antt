use Rattle.std.proofs.Common.{◌≢◌, ◌∙◌, [], map, refl, sym, ap, subst}
use Rattle.std.specs.List.{All, Contains}
use Rattle.shared_rows.proofs.ForCallers.{changes_open, changes_same, changes_twice}
use Rattle.shared_rows.specs.Rows.{rows_at}
use Rattle.object_tree.specs.declared.child.Child.{Child}
use Rattle.object_tree.specs.Changes.{orphaned}
use Rattle.object_tree.proofs.KeyLemmas.{rises}
use Rattle.object_tree.proofs.ChildLemmas.{none_there, one_there}
use Rattle.object_tree.proofs.removing.orphan.Goals as goal

pub kids-init : goal.kids-init
kids-init c = record {
  place = c.requires.place;
  elsewhere = changes_same [] c.args.rows.now c.args.rows.now c.args.place refl;
  linked = c.requires.linked;
  orphaned = refl;
}

pub kids-smaller : goal.kids-smaller
kids-smaller c = rw c.hang.ensures.rows (one_there c.kids.invariant.linked c.args.object
    (rises (rows_at c.kids.rows c.args.place) c.hang.ensures.sound) c.requires.object c.in-Some.child
    (subst (λ links. Contains links c.in-Some.child) c.as_buffer.ensures.links c.in-Some.ensures.child.0) c.in-Some.ensures.child.1).1

pub kids-preserved : goal.kids-preserved
kids-preserved c = record {
  place = changes_open [] c.kids.rows c.hang.new.rows c.args.place c.hang.ensures.elsewhere c.kids.invariant.place;
  elsewhere = changes_twice [] c.args.rows.now c.kids.rows c.hang.new.rows c.args.place c.kids.invariant.elsewhere c.hang.ensures.elsewhere;
  linked = c.hang.ensures.linked;
  orphaned =
      ap (map (orphaned c.args.object)) c.hang.ensures.rows
      ∙ ((one_there c.kids.invariant.linked c.args.object (rises (rows_at c.kids.rows c.args.place) c.hang.ensures.sound) c.requires.object c.in-Some.child
      (subst (λ links. Contains links c.in-Some.child) c.as_buffer.ensures.links c.in-Some.ensures.child.0) c.in-Some.ensures.child.1).0
      ∙ c.kids.invariant.orphaned);
}

pub returns-clause-rows : goal.returns-clause-rows
returns-clause-rows c =
    sym (none_there c.kids.invariant.linked c.args.object
    (subst (All (λ (child : Child). child.parent ≢ c.args.object)) c.as_buffer.ensures.links c.in_default.ensures.none))
    ∙ c.kids.invariant.orphaned
