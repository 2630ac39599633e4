use Rattle.std.proofs.Common.{◌-◌, arith, ◌∙◌}
use Rattle.std.proofs.lemmas.Grind.{common_steps}
use Rattle.json_reading.proofs.MemberLemmas.{key_is_before, key_is_here}
use Rattle.json_reading.proofs.find.last_at.Goals as goal

pub returns-then-is_word-clause-value : goal.returns-then-is_word-clause-value
returns-then-is_word-clause-value c =
    c.left.invariant.0
    ∙ key_is_here c.args.key.now c.args.members.now (c.left.left - 1) c.left.left c.index-members-left.result
    (omega arith) (omega arith) c.index-members-left.is (grind arith)

pub left-preserved : goal.left-preserved
left-preserved c = (
  c.left.invariant.0
      ∙ key_is_before c.args.key.now c.args.members.now (c.left.left - 1) c.left.left c.index-members-left.result
      (omega arith) (omega arith) c.index-members-left.is (grind arith),
  omega arith,
)

pub left-init : goal.left-init
left-init c = grind (arith, common_steps)
