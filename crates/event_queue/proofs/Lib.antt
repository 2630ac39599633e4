pub mod EntryLemmas
pub mod PlacedLemmas
pub mod SeatLemmas
pub mod LawLemmas
pub mod WaitLemmas
pub mod OrderLemmas
pub mod QueueLemmas
