pub mod Deleted
pub mod Lifted
pub mod Taken
pub mod Stored
pub mod Expanded
