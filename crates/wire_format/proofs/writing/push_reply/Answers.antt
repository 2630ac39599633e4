use Rattle.std.proofs.Common.{◌++◌, ◌∙◌, codes, string_bytes, sym, ap}
use Rattle.wire_format.proofs.LineTexts.{reply_line, three_behind}
use Rattle.wire_format.proofs.writing.push_reply.Goals as goal

pub returns : goal.returns
returns c =
    let told = c.in_ok-push_shown.ensures ∙ ap (λ text. string_bytes c.push_str.new.self ++ text) c.shown_as.ensures.text in
    three_behind _ _ _ _ (codes "{\"reply\":") _ _ c.in_ok-push_str.ensures.bytes told c.in_ok-push_session.ensures
    ∙ ap (λ line. string_bytes c.args.buffer.now ++ line) (sym (reply_line c.args.answer.now c.args.session.now))
