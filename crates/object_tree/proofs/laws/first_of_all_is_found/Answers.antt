use Rattle.object_tree.proofs.FindBelowLemmas.{first_of_all}
use Rattle.object_tree.proofs.laws.first_of_all_is_found.Goals as goal

pub returns : goal.returns
returns c = first_of_all
