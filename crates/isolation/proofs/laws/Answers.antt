use Rattle.isolation.proofs.laws.Goals as goal
use Rattle.isolation.proofs.Isolated.{first_half}
use Rattle.isolation.proofs.LeftOut.{leaving_out, final_states}
use Rattle.isolation.proofs.Reaching.{second_half, influenced_states, influence_is_least, joins_stood, influence_of_standing}

pub returns : goal.returns
returns g c = record {
  first_half = λ m lawful. first_half m lawful;
  leaving_out = λ m lawful. leaving_out m lawful;
  final_states = λ m lawful. final_states m lawful;
  second_half = λ m lawful. second_half m lawful;
  influenced_states = λ m lawful. influenced_states m lawful;
  influence_is_least = λ m lawful. influence_is_least m lawful;
  joins_stood = λ m lawful. joins_stood m lawful;
  influence_of_standing = λ m lawful. influence_of_standing m lawful;
}
