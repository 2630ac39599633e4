use Rattle.binding_values.proofs.StoreLemmas.{addition_is_marked, all_may_change, binding_is_marked, dynamic_is_nothing, no_dynamic_is_nothing}
use Rattle.binding_values.proofs.StoreLemmas.{unbinding_is_marked, write_is_marked}
use Rattle.binding_values.proofs.kept_laws.law_changes.Goals as goal

pub returns : goal.returns
returns c = record {
  write = write_is_marked;
  add = addition_is_marked;
  set_dynamic = dynamic_is_nothing;
  remove_dynamic = no_dynamic_is_nothing;
  all = all_may_change;
  bind = binding_is_marked;
  unbind = unbinding_is_marked;
}
