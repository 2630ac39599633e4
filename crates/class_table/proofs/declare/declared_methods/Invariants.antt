use Rattle.std.proofs.Common.{◌≡◌, map}
use Rattle.std.specs.Vec.Iter.{into_iter_items}
use Rattle.class_table.specs.Declaring.{method_of}
use Rattle.class_table.specs.Signed.{signed_seen}
use Rattle.class_table.specs.Steps.{each, in_front}
use Rattle.class_table.proofs.declare.declared_methods.Given as goal

abbrev pub invariant-loop-new : goal.invariant-loop-new
invariant-loop-new l =
    (goal.iterator-loop-new).can_next l.new-iterator ×
    (goal.iterator-loop-new).is_finite l.new-iterator ×
    (in_front l.methods.items (each method_of (map signed_seen (into_iter_items l.new-iterator))) ≡ each method_of (map signed_seen l.fn.signed.items))
