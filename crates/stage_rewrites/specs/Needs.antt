pub mod Single
pub mod Placed
