pub mod DeskLemmas
pub mod PlaceLemmas
pub mod JoinersLemmas
pub mod ListedLemmas
pub mod GoingLemmas
