-- The machine of the sessions keeps the laws of the theory.
use Rattle.std.proofs.Common.{refl}
use Rattle.std.proofs.lemmas.Slice.Eq.{bytes_eq-Decides}
use Rattle.isolation.specs.Machine.{IsLawful}
use Rattle.session_model.specs.Thread.{Settings, arrives, joins_name}
use Rattle.session_model.specs.Machine.{machine}
use Rattle.session_model.proofs.JoinLemmas.{command_made, command_stands, post_stranger}

pub lawful : (settings : Settings) → IsLawful (machine settings)
unfolding arrives joins_name
lawful settings = record {
  equal = λ a b same. (bytes_eq-Decides a b).0 same;
  itself = λ a. (bytes_eq-Decides a a).1 refl;
  stranger = post_stranger settings.classes;
  made = command_made settings;
  stands = command_stands settings;
  arrived = λ state from post name named. named;
}
