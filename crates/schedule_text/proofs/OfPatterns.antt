pub mod Meanings
pub mod Parts
pub mod Statements
pub mod Expressions
pub mod Faults
pub mod Names
pub mod Unique
pub mod Instance
