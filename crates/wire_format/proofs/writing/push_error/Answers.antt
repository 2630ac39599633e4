use Rattle.std.proofs.Common.{◌++◌, ◌∙◌, codes, string_bytes, sym, ap}
use Rattle.wire_format.proofs.LineTexts.{error_line, key_behind}
use Rattle.wire_format.proofs.writing.push_error.Goals as goal

pub returns : goal.returns
returns c =
    key_behind _ _ _ _ _ (codes "{\"error\":") c.in_ok-put.ensures c.in_ok-push_session.ensures
    ∙ ap (λ line. string_bytes c.args.buffer.now ++ line) (sym (error_line c.args.code c.args.session.now))
