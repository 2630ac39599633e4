pub mod Owned
pub mod Functors
pub mod Reading
pub mod Answers
pub mod Saying
pub mod Opening
pub mod Calls
