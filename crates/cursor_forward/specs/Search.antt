pub mod Patterns
pub mod PlainPattern
