use Rattle.json_reading.specs.Members.{data_of}
use Rattle.wire_commands.specs.Found.{words_of}
use Rattle.wire_commands.proofs.FoundLemmas.{SoFar}
use Rattle.wire_commands.proofs.found.find_values.Given as goal

abbrev pub invariant-members : goal.invariant-members
invariant-members l = SoFar (λ field. data_of field.now) (words_of l.keys) l.members l.member-index l.found
