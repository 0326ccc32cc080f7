pub mod Sets
pub mod Reach
pub mod Entries
pub mod Examples
