use Rattle.std.proofs.Common.{◌<◌}
use Rattle.std.specs.List.{AllWithin}
use Rattle.binding_graph.specs.LastShown.{ShowSame, slots_of}
use Rattle.binding_graph.proofs.last_shown.make_slots.Given as goal

abbrev pub invariant-loop-row : goal.invariant-loop-row
invariant-loop-row l = record {
  same : ShowSame l.initial.objects.items l.objects.items;
  slots : AllWithin (λ row. row.at.number < slots_of l.objects.items row.at.object) l.rows 0 l.row-index;
}
