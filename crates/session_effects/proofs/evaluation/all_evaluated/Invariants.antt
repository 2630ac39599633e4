use Rattle.std.proofs.Common.{◌≡◌, drop}
use Rattle.session_model.specs.Targets.{all_evaluated}
use Rattle.session_tables.specs.Tables.{state_at}
use Rattle.session_effects.proofs.FoundLemmas.{behind}
use Rattle.session_effects.proofs.evaluation.all_evaluated.Given as goal

abbrev pub invariant-loop-expr : goal.invariant-loop-expr
invariant-loop-expr l =
    behind l.values (all_evaluated (state_at l.reader.tables.now l.reader.place) l.reader.object l.reader.sender l.args (drop l.expr-index l.exprs))
    ≡ all_evaluated (state_at l.reader.tables.now l.reader.place) l.reader.object l.reader.sender l.args l.exprs
