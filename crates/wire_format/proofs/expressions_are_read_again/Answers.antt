use Rattle.wire_format.proofs.ExpressionReading.{expressions_again}
use Rattle.wire_format.proofs.expressions_are_read_again.Goals as goal

pub returns : goal.returns
returns c = expressions_again
