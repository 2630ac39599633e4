use Rattle.std.proofs.Common.{codes}
use Rattle.wire_format.proofs.LineTexts.{plain_behind, three_behind}
use Rattle.wire_format.proofs.writing.push_session.Goals as goal

pub returns : goal.returns
returns c = plain_behind _ _ _ _ (codes ",\"session\":") c.args.session.now (codes "}\n") (cc)
    c.in_ok-push_str-3.ensures.bytes c.in_ok-push_str-4.ensures.bytes c.in_ok-push_str-5.ensures.bytes

pub returns-then-not-is_plain : goal.returns-then-not-is_plain
returns-then-not-is_plain c = three_behind _ _ _ _ _ _ _ c.in_ok-push_str.ensures.bytes c.in_ok-push_escaped.ensures c.in_ok-push_str-2.ensures.bytes
