pub mod ActionLemmas
pub mod FoundLemmas
pub mod MethodLemmas
pub mod WritingLemmas
pub mod FunctorLemmas
pub mod ForCallers
pub mod ValuesLemmas
