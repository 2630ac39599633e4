use Rattle.binding_graph.proofs.StepLemmas.{opening_in_step, room_in_step}
use Rattle.binding_graph.proofs.laws.law_openings.Goals as goal

pub returns : goal.returns
returns c = record { opening = opening_in_step; ready = room_in_step }
