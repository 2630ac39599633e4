use Rattle.std.proofs.Common.{append_assoc}
use Rattle.serde_json.proofs.OnLiterals.{serde_json_on_literals}
use Rattle.wire_format.proofs.LineTexts.{three_puts}
use Rattle.wire_format.proofs.descriptions.push_to_functor.Goals as goal

pub returns : goal.returns
unfolding serde_json_on_literals
returns c =
    rw (c.in_ok-push_str.ensures.bytes, c.in_ok-put-8.ensures, c.in_ok-put-7.ensures, c.in_ok-put-6.ensures, c.in_ok-put-5.ensures)
    (rw (c.in_ok-put-4.ensures, c.in_ok-put-3.ensures, c.in_ok-put-2.ensures, c.in_ok-put.ensures, three_puts, three_puts, append_assoc, append_assoc))
