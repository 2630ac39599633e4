-- What the bytes that were read say of all bytes that a file has.
use Rattle.std.proofs.Common.{◌≡◌, ◌∙◌, ◌<◌, ◌≤◌, ◌++◌, ℕ, false, List, length, nat_le, take, Option, Some, None, Result, Ok, Err, IfSome, refl, sym, ap, subst}
use Rattle.std.proofs.Common.{inl, inr, arith, append-nil}
use Rattle.std.proofs.lemmas.Bool.{cases_Bool, leb-false, leb-true, lt-leb}
use Rattle.std.proofs.lemmas.List.{length-take-le, take_all}
use Rattle.std.specs.Io.KnownBytes.{Consumes, IsAtEnd}
use Rattle.class_table.specs.ClassFile.{json_in, table_of}
use Rattle.class_table.specs.declared.class.Class.{Class}
use Rattle.class_table.specs.declared.fault.ClassFault.{ClassFault}
use Rattle.class_table.specs.declared.fault.ClassFaultKind.TheVariants.{Limit}
use Rattle.class_table.specs.declared.file.TheConstants.{FILE_BYTES}
use Rattle.command_line.specs.ClassBytes.{Answers, AnswersOfFile}
use Rattle.command_line.specs.declared.class_file.TheConstants.{MOST_BYTES}
use Rattle.command_line.specs.declared.class_file.ClassFileError.{ClassFileError}
use Rattle.command_line.specs.declared.class_file.ClassFileError.TheVariants.{Refused, Unreadable, Memory}

-- as many as there were
pub all_there : (a b : Option (List ℕ)) (bytes : List ℕ) (most : ℕ) → Consumes a b bytes → IsAtEnd b → length bytes ≤ most
    → IfSome a (λ left. bytes ≡ take most left)
all_there None b bytes most consumed end few = tt
all_there (Some left) None bytes most consumed end few = absurd consumed
all_there (Some left) (Some rest) bytes most consumed end few =
    let whole : left ≡ bytes = consumed ∙ ap (λ more. bytes ++ more) end ∙ append-nil bytes in
    sym (ap (take most) whole ∙ take_all most bytes few)

too_long : (bytes : List ℕ) → nat_le (length bytes) FILE_BYTES ≡ false → table_of bytes ≡ Err (record { kind = Limit; class = 0 })
unfolding table_of json_in
too_long bytes long = rw long refl

-- a file that is too long is told as such, and one that is not is read whole
pub table_of-front : (left : List ℕ) → table_of (take MOST_BYTES left) ≡ table_of left
table_of-front left = elim (cases_Bool (nat_le (length left) FILE_BYTES)) [
  | inl short ↦
      let few : length left ≤ FILE_BYTES = leb-true (length left) FILE_BYTES short in
      ap table_of (take_all MOST_BYTES left (omega arith))
  | inr long ↦
      let more : FILE_BYTES < length left = leb-false (length left) FILE_BYTES long in
      let front : length (take MOST_BYTES left) ≡ MOST_BYTES = length-take-le MOST_BYTES left (omega arith) in
      too_long (take MOST_BYTES left) (lt-leb _ FILE_BYTES (omega arith)) ∙ sym (too_long left long)
]

of_file : (result : Result (List Class) ClassFileError) (wanted : Result (List Class) ClassFault) → Answers result wanted → AnswersOfFile result wanted
of_file (Ok classes) wanted is = is
of_file (Err (Refused fault)) wanted is = is
of_file (Err Unreadable) wanted is = tt
of_file (Err Memory) wanted is = tt

-- what the bytes that were read answer, the file answers
pub answers_whole : (left : Option (List ℕ)) (bytes : List ℕ) (result : Result (List Class) ClassFileError) → IfSome left (λ all. bytes ≡ take MOST_BYTES all)
    → Answers result (table_of bytes) → IfSome left (λ all. AnswersOfFile result (table_of all))
answers_whole None bytes result read is = tt
answers_whole (Some all) bytes result read is =
    of_file result (table_of all) (subst (Answers result) (ap table_of read ∙ table_of-front all) is)
