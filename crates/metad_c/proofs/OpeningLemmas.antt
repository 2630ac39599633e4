-- Which classes a class file stands for.
use Rattle.std.proofs.Common.{◌≡◌, ℕ, true, false, List, [], ◌∷◌, Ok, length, refl, ap, sym}
use Rattle.std.specs.Prelude.{◌==◌}
use Rattle.std.proofs.lemmas.Bool.{eqb-true}
use Rattle.std.proofs.lemmas.List.{nil_from_length}
use Rattle.class_table.specs.ClassFile.{table_of}
use Rattle.command_line.specs.Demonstration.{demonstration}
use Rattle.metad_c.specs.declared.opening.Stop.{Stop}
use Rattle.metad_c.specs.declared.opening.Stop.TheVariants.{Classes, Keys, Memory}
use Rattle.metad_c.specs.Opening.{StopsAtClasses, classes_of}

-- an empty file stands for the demonstration classes,
pub of_none : (bytes : List ℕ) → true ≡ (length bytes == 0) → classes_of bytes ≡ Ok demonstration
of_none bytes empty = ap classes_of (nil_from_length bytes (eqb-true _ _ (sym empty)))

-- and any other is read
pub of_some : (bytes : List ℕ) → false ≡ (length bytes == 0) → classes_of bytes ≡ table_of bytes
of_some [] some = absurd (cc)
of_some (byte ∷ bytes) some = refl

-- memory was wanted
pub for_want : (bytes : List ℕ) (stop : Stop) → stop ≡ Memory → StopsAtClasses bytes stop
for_want bytes (Classes fault) is = absurd (cc)
for_want bytes Keys is = absurd (cc)
for_want bytes Memory is = tt
