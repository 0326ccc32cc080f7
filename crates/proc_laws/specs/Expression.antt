pub mod Exchange
pub mod Commute
pub mod Rename
pub mod Passes
