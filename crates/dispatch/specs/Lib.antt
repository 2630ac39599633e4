pub mod CommandOutput
pub mod Prefix
pub mod Agenda
