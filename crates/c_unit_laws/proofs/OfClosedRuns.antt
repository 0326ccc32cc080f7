pub mod Entries
pub mod Add3
pub mod FilledColumn
pub mod SharedArray
