pub mod Truth
pub mod Rows
pub mod Entries
pub mod Held
pub mod Settled
pub mod Systems
pub mod Answers
pub mod Parts
