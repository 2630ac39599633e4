use Rattle.std.proofs.Common.{◌++◌, ◌∙◌, codes, string_bytes, sym, ap}
use Rattle.wire_format.proofs.LineTexts.{binding_warning_line, key_behind}
use Rattle.wire_format.proofs.writing.push_binding_warning.Goals as goal

pub returns : goal.returns
returns c =
    key_behind _ _ _ _ _ (codes "{\"object\":") c.in_ok-put.ensures
    (key_behind _ _ _ _ _ (codes ",\"property\":") c.in_ok-put-2.ensures c.in_ok-push_warned.ensures)
    ∙ ap (λ line. string_bytes c.args.buffer.now ++ line) (sym (binding_warning_line c.args.object c.args.property.now c.args.error c.args.session.now))
