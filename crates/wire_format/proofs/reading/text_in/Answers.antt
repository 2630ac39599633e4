use Rattle.std.proofs.Common.{◌≡◌, ℕ, true, false, List, length, arith}
use Rattle.std.specs.Str.{IsUtf8, is_utf8}
use Rattle.std.proofs.lemmas.Bool.{false_from_ne_true, le-leb}
use Rattle.std.proofs.lemmas.Str.{IsUtf8-from_is_utf8, is_utf8-from_IsUtf8}
use Rattle.wire_format.specs.declared.line.TheConstants.{LINE_BYTES}
use Rattle.wire_format.specs.Command.{json_in}
use Rattle.wire_format.proofs.reading.text_in.Goals as goal

-- bytes that are no text do not pass the test of a text
not_text : (bytes : List ℕ) → (IsUtf8 bytes → ⊥) → is_utf8 bytes ≡ false
not_text bytes h = false_from_ne_true _ (λ e. h (IsUtf8-from_is_utf8 bytes e))

pub returns-in-Ok : goal.returns-in-Ok
unfolding json_in
returns-in-Ok c =
    let is_text : is_utf8 c.args.line.now ≡ true = is_utf8-from_IsUtf8 c.args.line.now c.in-Ok.ensures.cases.1 in
    let short = le-leb (length c.args.line.now) LINE_BYTES (omega arith) in
    rw (short, is_text, ← c.in-Ok.ensures.cases.0)

pub returns-in-Err : goal.returns-in-Err
unfolding json_in
returns-in-Err c =
    let no_text : is_utf8 c.args.line.now ≡ false = not_text c.args.line.now c.in-Err.ensures.cases.0 in
    let short = le-leb (length c.args.line.now) LINE_BYTES (omega arith) in
    rw (short, no_text)
