pub mod LinkLemmas
pub mod BucketLemmas
mod ListingLemmas
pub mod KeyedLemmas
pub mod WithoutLemmas
pub mod RowsLemmas
pub mod RoutesLemmas
pub mod WalkLemmas
pub mod GoneLemmas
pub mod SeenLemmas
pub mod AddedLemmas
pub mod LazyLemmas
pub mod StateLemmas
pub mod SteppedLemmas
pub mod ForCallers
