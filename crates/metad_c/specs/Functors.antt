-- The functors of a server in a host program: those of the program `metad`.
use Rattle.std.specs.Prelude.{List, ◌∷◌, [], pos}
use Rattle.stored_slots.specs.declared.functor.Functor.{Functor}
use Rattle.command_line.specs.Clamp.{clamp}
use Rattle.command_line.specs.Count.{count}

abbrev pub program_functors : List Functor
program_functors = clamp (pos 0) (pos 100) ∷ count ∷ []
