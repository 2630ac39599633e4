pub mod CommandLemmas
pub mod Plain
mod ExpressionReading
pub mod LineTexts
pub mod Cutting
pub mod Outputs
pub mod LeftOutLines
pub mod Sessions
pub mod ForCallers
