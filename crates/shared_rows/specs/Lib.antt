pub mod Rows
pub mod Index
pub mod Links
pub mod Table
pub mod Paired
pub mod Lending
pub mod Gap
pub mod Gapped
