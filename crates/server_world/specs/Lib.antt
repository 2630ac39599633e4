pub mod Names
pub mod Server
pub mod Bare
pub mod Runs
pub mod Spared
pub mod Noting
pub mod NotedInside
pub mod NotedRuns
