pub mod Branches
pub mod EvaluationLemmas
pub mod MetLemmas
pub mod KnownLemmas
pub mod ChangeLemmas
pub mod SubstitutionLemmas
pub mod StatingLemmas
pub mod ForCallers
