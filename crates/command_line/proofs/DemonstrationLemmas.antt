-- What the text of the demonstration classes declares.
use Rattle.std.proofs.Common.{◌≡◌, ◌∙◌, refl, Ok, Err, Result, List, ℕ, ap, subst}
use Rattle.std.specs.Char.{encode_utf8}
use Rattle.std.specs.Str.{chars}
use Rattle.std.specs.Str.{is_utf8}
use Rattle.std.specs.Float.Numeral.{scan_numeral}
use Rattle.json.specs.Lex.{lex, punctuate}
use Rattle.json.specs.Text.{content}
use Rattle.json.specs.Word.{word, after_number}
use Rattle.json.specs.Json.{items, members, value}
use Rattle.serde_json.specs.Read.{number_of}
use Rattle.class_table.specs.ClassFile.{table_of, json_in, classes_in, declared}
use Rattle.class_table.specs.Declaring.{signal_named, is_declared_once, class_below, class_of}
use Rattle.class_table.specs.Written.{slot_in, property_in, methods_in, properties_in, class_in}
use Rattle.class_table.specs.Lookup.{gathered}
use Rattle.class_table.specs.declared.class.Class.{Class}
use Rattle.signature_core.specs.Reading as sig
use Rattle.command_line.specs.declared.demonstration.TheConstants.{DEMONSTRATION}
use Rattle.command_line.specs.Demonstration.{demonstration}
use Rattle.command_line.specs.ClassBytes.{Answers, AnswersByDemonstration}
use Rattle.command_line.specs.declared.class_file.ClassFileError.{ClassFileError}
use Rattle.command_line.specs.declared.class_file.ClassFileError.TheVariants.{Refused, Unreadable, Memory}

-- read as a class file, it is exactly these classes
declares : table_of DEMONSTRATION.now ≡ Ok demonstration
unfolding table_of json_in is_utf8 lex punctuate content word after_number items members value number_of classes_in declared signal_named is_declared_once
    class_below class_of slot_in property_in methods_in properties_in class_in gathered chars encode_utf8 scan_numeral sig.signature_of sig.word sig.skip
    sig.behind_mark sig.behind_word sig.inside_at sig.params_at sig.param_at sig.is_end demonstration
declares = refl

answers_by : (result : Result (List Class) ClassFileError) → Answers result (Ok demonstration) → AnswersByDemonstration result
answers_by (Ok classes) is = let same : classes ≡ demonstration = cc in same
answers_by (Err (Refused fault)) is = absurd (cc is)
answers_by (Err Unreadable) is = absurd is
answers_by (Err Memory) is = tt

-- what these bytes answer is the demonstration classes
pub by_demonstration : (bytes : List ℕ) (result : Result (List Class) ClassFileError) → bytes ≡ DEMONSTRATION.now → Answers result (table_of bytes)
    → AnswersByDemonstration result
by_demonstration bytes result same is = answers_by result (subst (Answers result) (ap table_of same ∙ declares) is)
