pub mod Examples
pub mod Expressions
pub mod Copies
pub mod Renamings
pub mod Mentions
pub mod Bound
