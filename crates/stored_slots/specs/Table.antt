-- The functors of a table, without their closures.
use Rattle.std.specs.Prelude.{List, map}
use Rattle.stored_slots.specs.declared.functor.Functor.{Functor}
use Rattle.stored_slots.specs.declared.table.Functors.{Functors}

abbrev pub functors_of : {x : _} {f : _} {g : _} → Functors x f g → List Functor
functors_of table = map (λ stored. stored.functor) table.stored.items
