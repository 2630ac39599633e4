use Rattle.isolation.proofs.slice_laws.Goals as goal
use Rattle.isolation.proofs.Between.{slice_law, slice_from_members}
use Rattle.isolation.proofs.Sliced.{slice_within_influence, notes_give_slice, notes_are_right}

pub returns : goal.returns
returns g c = record {
  slice = λ m lawful. slice_law m lawful;
  slice_from_members = λ m lawful. slice_from_members m lawful;
  slice_within_influence = λ m lawful. slice_within_influence m lawful;
  notes_give_slice = λ m lawful. notes_give_slice m lawful;
  notes_are_right = λ m lawful. notes_are_right m lawful;
}
