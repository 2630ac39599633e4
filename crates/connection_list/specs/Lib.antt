pub mod Buckets
pub mod Ends
pub mod Marks
pub mod Routes
pub mod Rows
pub mod Table
