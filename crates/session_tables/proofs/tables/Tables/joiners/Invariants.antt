use Rattle.std.proofs.Common.{◌-◌, length}
use Rattle.session_tables.proofs.JoiningLemmas.{ArePassing, joins}
use Rattle.session_tables.proofs.tables.Tables.joiners.Given as goal

-- so far these are the places below this one that join
abbrev pub invariant-joiners : goal.invariant-joiners
invariant-joiners l = ArePassing (joins l.self l.from) l.least l.places.items

abbrev pub decreases-joiners : goal.decreases-joiners
decreases-joiners l = length l.self.desks.places - l.least
