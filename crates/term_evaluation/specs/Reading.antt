-- The properties that an expression reads.
use Rattle.std.specs.Prelude.{List, [], ◌∷◌, ◌++◌}
use Rattle.term_core.specs.Term.{Term, const, arg, state, prop, binary, choice}
use Rattle.term_evaluation.specs.declared.reading.Read.{Read}

-- The properties in the order in which they are written, repetitions included.
abbrev pub reads_of : Term → List Read
reads_of (const value) = []
reads_of (arg place) = []
reads_of state = []
reads_of (prop target name) = record { target = target; name = name } ∷ []
reads_of (binary operator a b) = reads_of a ++ reads_of b
reads_of (choice test a b) = reads_of test ++ (reads_of a ++ reads_of b)
