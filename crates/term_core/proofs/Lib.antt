pub mod Keys
pub mod Concatenated
pub mod Branches
pub mod Counts
pub mod BodyLemmas
pub mod ForCallers
