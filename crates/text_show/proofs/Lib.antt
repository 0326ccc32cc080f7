pub mod Appends
pub mod Branches
