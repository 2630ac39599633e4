use Rattle.std.proofs.Common.{◌≡◌, ◌+◌, drop, length, map}
use Rattle.serde_json.specs.View.{view}
use Rattle.class_table.specs.ClassFile.{declared}
use Rattle.class_table.proofs.file.declare.Given as goal

abbrev pub invariant-loop-index : goal.invariant-loop-index
invariant-loop-index l = record {
  long : length l.table ≡ length l.initial.table + l.index;
  left : declared (l.index + 1) l.table (map view (drop l.index l.written)) ≡ declared 1 l.initial.table (map view l.written);
}
