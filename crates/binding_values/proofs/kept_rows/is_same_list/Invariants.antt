use Rattle.std.proofs.Common.{◌≡◌, take}
use Rattle.binding_values.proofs.kept_rows.is_same_list.Given as goal

abbrev pub invariant-loop-i : goal.invariant-loop-i
invariant-loop-i l = take l.i l.one ≡ take l.i l.other
