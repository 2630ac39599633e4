pub mod KindLemmas
pub mod FitLemmas
pub mod ParamsLemmas
pub mod Pieces
pub mod Complete
pub mod Sound
pub mod Normal
pub mod ForCallers
