pub mod Parts
pub mod Expressions
pub mod Blocks
pub mod Versions
pub mod Kept
pub mod Examples
