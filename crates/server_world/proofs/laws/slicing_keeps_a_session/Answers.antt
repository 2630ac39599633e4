use Rattle.isolation.proofs.ForCallers.{slice_law, slice_from_members, slice_within_influence}
use Rattle.session_model.specs.Machine.{machine}
use Rattle.session_model.proofs.ForCallers.{lawful}
use Rattle.server_world.proofs.laws.slicing_keeps_a_session.Goals as goal

pub returns : goal.returns
returns c = record {
  slice = λ settings. slice_law (machine settings) (lawful settings);
  members = λ settings. slice_from_members (machine settings) (lawful settings);
  within = λ settings. slice_within_influence (machine settings) (lawful settings);
}
