use Rattle.std.proofs.Common.{◌≡◌, true, [], ◌∷◌, ◌++◌, string_bytes, sym, ap, ◌∙◌}
use Rattle.std.specs.List.{list_all}
use Rattle.wire_format.specs.Text.{is_plain_byte}
use Rattle.wire_format.proofs.LineTexts.{three_behind}
use Rattle.wire_format.proofs.Plain.{text_of_plain}
use Rattle.wire_format.proofs.writing.push_text.Goals as goal

pub returns : goal.returns
returns c =
    let plain : list_all is_plain_byte c.args.text.now ≡ true = cc in
    three_behind _ _ _ _ (34 ∷ []) c.args.text.now (34 ∷ []) c.in_ok-push_str.ensures.bytes c.in_ok-push_str-2.ensures.bytes c.in_ok-push_str-3.ensures.bytes
    ∙ ap (λ rest. string_bytes c.args.buffer.now ++ rest) (sym (text_of_plain c.args.text.now plain))
