use Rattle.object_tree.proofs.LawLemmas.{keeps_numbers, keeps_sound}
use Rattle.object_tree.proofs.laws.changes_keep_forests_sound.Goals as goal

pub returns : goal.returns
returns c = record { sound = keeps_sound; numbers = keeps_numbers }
