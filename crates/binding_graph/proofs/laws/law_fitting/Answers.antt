use Rattle.binding_values.proofs.ForCallers.{value_short}
use Rattle.binding_values.proofs.ForCallers.{changes_fit, settling_sound}
use Rattle.binding_graph.proofs.laws.law_fitting.Goals as goal

pub returns : goal.returns
returns c = record { values = λ s g sound are q. value_short s sound g are q; changes = changes_fit; settling = settling_sound }
