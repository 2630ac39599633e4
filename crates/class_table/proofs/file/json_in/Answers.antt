use Rattle.std.proofs.Common.{◌≡◌, ℕ, true, false, List}
use Rattle.std.specs.Str.{IsUtf8, is_utf8}
use Rattle.std.proofs.lemmas.Bool.{false_from_ne_true, le-leb}
use Rattle.std.proofs.lemmas.Str.{IsUtf8-from_is_utf8, is_utf8-from_IsUtf8}
use Rattle.class_table.specs.declared.file.TheConstants.{FILE_BYTES}
use Rattle.class_table.specs.ClassFile.{json_in}
use Rattle.class_table.proofs.file.json_in.Goals as goal

-- bytes that are no text do not pass the test of a text
not_text : (bytes : List ℕ) → (IsUtf8 bytes → ⊥) → is_utf8 bytes ≡ false
not_text bytes h = false_from_ne_true _ (λ e. h (IsUtf8-from_is_utf8 bytes e))

pub returns-in_default : goal.returns-in_default
unfolding json_in
returns-in_default c =
    let no_text : is_utf8 c.args.bytes.now ≡ false = not_text c.args.bytes.now c.in_default.ensures.cases.0 in
    let short = le-leb _ FILE_BYTES c.if-bytes-gt-FILE_BYTES.false in
    rw (short, no_text)

pub returns-in-Ok-from_str : goal.returns-in-Ok-from_str
unfolding json_in
returns-in-Ok-from_str c =
    let is_text : is_utf8 c.args.bytes.now ≡ true = is_utf8-from_IsUtf8 c.args.bytes.now c.in-Ok.ensures.cases.1 in
    let short = le-leb _ FILE_BYTES c.if-bytes-gt-FILE_BYTES.false in
    let says = c.in-Ok-from_str.ensures.ok in
    rw (short, is_text, ← c.in-Ok.ensures.cases.0, says)
