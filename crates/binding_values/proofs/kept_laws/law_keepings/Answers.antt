use Rattle.binding_values.proofs.CompletenessLemmas.{complete_is_known, complete_is_right, rest_is_right, unmarked_is_complete}
use Rattle.binding_values.proofs.StepLemmas.{alike, kept_stays_right, stays_right, stays_whole}
use Rattle.binding_values.proofs.kept_laws.law_keepings.Goals as goal

pub returns : goal.returns
returns c = record {
  stays = λ a b keeping right closed agrees. kept_stays_right a b keeping right agrees;
  known = complete_is_known;
  complete = unmarked_is_complete;
  right = complete_is_right;
  step = λ a b marks more keeping right are_more differs. stays_right a b marks more keeping are_more (alike more a b differs) right;
  whole = λ a b marks more keeping whole are_more differs. stays_whole a b marks more keeping are_more (alike more a b differs) whole;
  rest = rest_is_right;
}
