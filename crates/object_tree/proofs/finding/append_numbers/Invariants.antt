use Rattle.std.proofs.Common.{◌≡◌, ◌≤◌, ◌+◌, ◌-◌, ◌++◌, length, map}
use Rattle.std.specs.List.{slice_range}
use Rattle.std.specs.Vec.{vec_capacity}
use Rattle.object_tree.specs.declared.child.Child.{Child}
use Rattle.object_tree.specs.Children.{kids_of}
use Rattle.object_tree.proofs.finding.append_numbers.Given as goal

abbrev pub invariant-kids : goal.invariant-kids
invariant-kids l = (l.found.items ++ map (λ (child : Child). child.number) (slice_range l.kids.all.now.items l.at l.kids.end) ≡ l.fn.found.items
    ++ map (λ (child : Child). child.number) (kids_of l.kids))
    × (length l.found.items + (l.kids.end - l.at) ≤ vec_capacity l.found)
