use Rattle.std.proofs.Common.{ℕ, List, subst}
use Rattle.class_table.specs.ClassFile.{table_of}
use Rattle.command_line.specs.ClassBytes.{Answers}
use Rattle.command_line.proofs.ReadingLemmas.{answers_whole}
use Rattle.command_line.proofs.class_file.classes_in.Goals as goal

pub returns-clause-classes : goal.returns-clause-classes
returns-clause-classes g c =
    let given = c.in_ok-bytes.bytes.items in
    let answers : Answers c.table_from.result (table_of given) =
    subst (λ (bytes : List ℕ). Answers c.table_from.result (table_of bytes)) c.as_slice.ensures.value c.table_from.ensures in
    answers_whole (g.S.Source.left c.args.file.now) given c.table_from.result c.in_ok-bytes.ensures.bytes answers
