pub mod Fields
pub mod Reals
pub mod Members
pub mod Spelling
pub mod Faults
pub mod Tokens
