pub mod Queue
pub mod Table
pub mod Laws
pub mod Entries
pub mod Inside
