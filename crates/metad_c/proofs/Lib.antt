pub mod Values
pub mod ServingLemmas
pub mod HandleLemmas
pub mod ReadingLemmas
pub mod OutputLemmas
pub mod FunctorLemmas
pub mod OpeningLemmas
pub mod CallLemmas
