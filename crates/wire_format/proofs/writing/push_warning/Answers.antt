use Rattle.std.proofs.Common.{◌++◌, ◌∙◌, codes, string_bytes, sym, ap}
use Rattle.wire_format.specs.Text.{text_of_line}
use Rattle.session_model.specs.declared.line.Line.TheVariants.{Warning}
use Rattle.wire_format.proofs.LineTexts.{key_behind, object_warning_line, warning_line}
use Rattle.wire_format.proofs.writing.push_warning.Goals as goal

pub returns-in_ok-push_warned-in-None : goal.returns-in_ok-push_warned-in-None
returns-in_ok-push_warned-in-None c =
    c.in_ok-push_warned-in-None.ensures
    ∙ ap (λ line. string_bytes c.args.buffer.now ++ line) (sym (warning_line c.args.code c.args.session.now)
    ∙ ap (λ object. text_of_line c.args.session.now (Warning c.args.code object)) (sym c.in-None.is))

pub returns-in_ok-push_warned-in-Some : goal.returns-in_ok-push_warned-in-Some
returns-in_ok-push_warned-in-Some c =
    key_behind _ _ _ _ _ (codes "{\"object\":") c.in_ok-put-in-Some.ensures c.in_ok-push_warned-in-Some.ensures
    ∙ ap (λ line. string_bytes c.args.buffer.now ++ line) (sym (object_warning_line c.args.code _ c.args.session.now)
    ∙ ap (λ object. text_of_line c.args.session.now (Warning c.args.code object)) (sym c.in-Some.is))
