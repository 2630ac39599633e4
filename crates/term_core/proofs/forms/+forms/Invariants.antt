-- Each call reads JSON that nests less deep.
use Rattle.serde_json.specs.Data.{depth}
use Rattle.serde_json.specs.View.{view}
use Rattle.term_core.proofs.forms.+forms.Given as goal

abbrev pub decreases-binary : goal.decreases-binary
decreases-binary l = depth (view l.json.now)

abbrev pub decreases-choice : goal.decreases-choice
decreases-choice l = depth (view l.json.now)

abbrev pub decreases-expression : goal.decreases-expression
decreases-expression l = depth (view l.json.now)
