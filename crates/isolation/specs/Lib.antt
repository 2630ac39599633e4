pub mod Machine
pub mod World
pub mod Alone
pub mod Influence
pub mod Slice
pub mod Pieces
pub mod Laws
pub mod Spared
