use Rattle.std.proofs.Common.{append_assoc}
use Rattle.serde_json.proofs.OnLiterals.{serde_json_on_literals}
use Rattle.wire_format.proofs.expressions.push_property.Goals as goal

pub returns-in_ok-push_str-in-Child : goal.returns-in_ok-push_str-in-Child
unfolding serde_json_on_literals
returns-in_ok-push_str-in-Child c =
    rw (c.in-Child.is, c.in_ok-push_str-in-Child.ensures.bytes, c.in_ok-put-in-Child-2.ensures, c.in_ok-put-in-Child.ensures) (simp append_assoc)
