use Rattle.std.proofs.Common.{◌≡◌, ◌∷◌, ◌++◌, ◌∙◌, [], true, sym, ap, subst}
use Rattle.std.specs.List.{list_all}
use Rattle.std.specs.Prelude.{IfSome}
use Rattle.serde_json.specs.Written.{compact_text}
use Rattle.variant_value.specs.Values.{json_of}
use Rattle.json.proofs.Printed.Places.{Placed-then}
use Rattle.wire_format.specs.Json.{array_of}
use Rattle.wire_format.specs.Text.{is_plain_byte, text_of_line}
use Rattle.wire_format.proofs.LineTexts.{text_of_call}
use Rattle.wire_format.proofs.calls.call_text.Goals as goal

pub returns : goal.returns
returns c =
    let plain : list_all is_plain_byte c.as_str-method.result.now ≡ true = cc in
    let whole = Placed-then c.put_front-at.ensures c.put_back-end.ensures in
    let values = subst (λ found. IfSome found (λ word. 91 ∷ (word.now ++ 93 ∷ []) ≡ compact_text (array_of json_of c.as_slice.result.now))) c.in-Some.is
    c.word_of.ensures in
    let written = text_of_call c.in-Call.call c.in-Some.word.now c.as_str-method.result.now c.args.session.now c.requires plain c.as_str-method.ensures
    (values ∙ ap (λ args. compact_text (array_of json_of args)) c.as_slice.ensures) in
    whole.bytes ∙ written ∙ ap (text_of_line c.args.session.now) (sym c.in-Call.is)
