pub mod Versions
pub mod Operators
pub mod Names
pub mod Owed
