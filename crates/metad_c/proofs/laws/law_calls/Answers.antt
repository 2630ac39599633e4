use Rattle.metad_c.proofs.CallLemmas.{calls_are_isolated, calls_go_on}
use Rattle.metad_c.proofs.laws.law_calls.Goals as goal

pub returns-clause-isolated : goal.returns-clause-isolated
returns-clause-isolated c = calls_are_isolated

pub returns-clause-more : goal.returns-clause-more
returns-clause-more c = calls_go_on
