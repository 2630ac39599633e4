pub mod ServerLemmas
pub mod RunLemmas
pub mod SparedLemmas
pub mod NotesLemmas
pub mod NotingLemmas
pub mod ForCallers
