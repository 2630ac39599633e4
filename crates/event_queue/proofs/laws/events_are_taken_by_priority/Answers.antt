use Rattle.event_queue.proofs.LawLemmas.{stays_by_priority}
use Rattle.event_queue.proofs.laws.events_are_taken_by_priority.Goals as goal

pub returns : goal.returns
returns c = stays_by_priority
