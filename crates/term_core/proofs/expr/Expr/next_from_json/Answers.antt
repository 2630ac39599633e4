use Rattle.std.proofs.Common.{◌∙◌, sym}
use Rattle.serde_json.specs.View.{view}
use Rattle.term_core.proofs.BodyLemmas.{next_read}
use Rattle.term_core.proofs.expr.Expr.next_from_json.Goals as goal

pub returns-clause-sound : goal.returns-clause-sound
returns-clause-sound c =
    let read = next_read c.args.params (view c.args.json.now) c.in_ok-expr.expr c.in_ok-expr.ensures in
    record {
      limited = sym c.is_within_limits.ensures ∙ c.if-not-is_within_limits.false;
      arguments = read.0;
      unread = read.1;
    }
