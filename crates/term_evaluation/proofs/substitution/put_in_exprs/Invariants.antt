use Rattle.std.proofs.Common.{◌≡◌, map, take}
use Rattle.term_evaluation.specs.Stating.{put_in}
use Rattle.term_evaluation.proofs.substitution.put_in_exprs.Given as goal

abbrev pub invariant-loop-expr : goal.invariant-loop-expr
invariant-loop-expr l = l.found.items ≡ map (put_in l.given l.args) (take l.expr-index l.exprs)
