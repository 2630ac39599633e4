use Rattle.binding_graph.proofs.StepLemmas.{addition_in_step, clearing_in_step, dynamic_in_step, named_write_in_step, no_dynamic_in_step, removal_in_step}
use Rattle.binding_graph.proofs.StepLemmas.{write_in_step}
use Rattle.binding_graph.proofs.laws.law_steps.Goals as goal

pub returns : goal.returns
returns c = record {
  write = write_in_step;
  write_named = named_write_in_step;
  add = addition_in_step;
  set_dynamic = dynamic_in_step;
  remove_dynamic = no_dynamic_in_step;
  drop = removal_in_step;
  clear = clearing_in_step;
}
