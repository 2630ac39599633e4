pub mod Returning
pub mod Sessions
pub mod Commands
pub mod Core
pub mod Engine
pub mod Items
