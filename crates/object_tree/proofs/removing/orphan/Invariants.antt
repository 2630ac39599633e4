use Rattle.std.proofs.Common.{◌≡◌, [], Some, length, map, filter}
use Rattle.shared_rows.specs.Table.{ChangesAt, IsPlace}
use Rattle.shared_rows.specs.Links.{AreLinked}
use Rattle.shared_rows.specs.Rows.{rows_at}
use Rattle.object_tree.specs.Rows.{has_parent}
use Rattle.object_tree.specs.Changes.{orphaned}
use Rattle.object_tree.specs.Children.{child_of, rows_of}
use Rattle.object_tree.proofs.removing.orphan.Given as goal

abbrev pub invariant-kids : goal.invariant-kids
invariant-kids l = record {
  place : IsPlace l.rows l.place;
  elsewhere : ChangesAt [] l.place l.initial.rows l.rows;
  linked : AreLinked child_of (rows_of (rows_at l.rows l.place)) l.children.links;
  orphaned : map (orphaned l.object) (rows_of (rows_at l.rows l.place)) ≡ map (orphaned l.object) (rows_of (rows_at l.initial.rows l.place));
}

abbrev pub decreases-kids : goal.decreases-kids
decreases-kids l = length (filter (has_parent (Some l.object)) (rows_of (rows_at l.rows l.place)))
