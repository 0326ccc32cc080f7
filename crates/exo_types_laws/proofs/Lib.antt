mod Unbroken
mod Wider
mod Texts
mod Scopes
mod Ids
mod Sizes
mod Tables
mod Leaves
mod Arguments
mod Calls
mod Statements
mod Procedures
mod Entries
mod FirstMemory
mod Lexed
mod Units
pub mod OfStrings
pub mod OfInstances
pub mod OfShown
