pub mod Names
pub mod ShortText
pub mod Texts
pub mod Codes
pub mod Answers
pub mod Callees
pub mod Modes
