pub mod ReadingLemmas
pub mod QueriesLemmas
pub mod ForCallers
pub mod BindingsLemmas
