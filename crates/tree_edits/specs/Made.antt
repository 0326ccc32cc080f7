pub mod Ids
pub mod Passes
pub mod Names
pub mod Numbers
pub mod Walked
