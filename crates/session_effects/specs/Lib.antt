pub mod Setup
pub mod Methods
pub mod Actions
pub mod Writing
pub mod Values
