pub mod Aliases
pub mod Marks
pub mod Written
pub mod Reads
pub mod Seen
pub mod Sorts
pub mod Calls
