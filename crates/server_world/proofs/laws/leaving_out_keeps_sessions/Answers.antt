use Rattle.isolation.proofs.ForCallers.{leaving_out, final_states, influenced_states}
use Rattle.session_model.specs.Machine.{machine}
use Rattle.session_model.proofs.ForCallers.{lawful}
use Rattle.server_world.proofs.laws.leaving_out_keeps_sessions.Goals as goal

pub returns : goal.returns
returns c = record {
  each = λ settings. leaving_out (machine settings) (lawful settings);
  all = λ settings. final_states (machine settings) (lawful settings);
  influence = λ settings. influenced_states (machine settings) (lawful settings);
}
