pub mod Functors
pub mod Proved
pub mod Closures
pub mod Table
