pub mod Above
pub mod Counts
pub mod Expressions
pub mod Kept
pub mod Numbers
pub mod Passes
pub mod Scopes
