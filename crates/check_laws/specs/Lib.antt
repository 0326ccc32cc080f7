pub mod Facts
pub mod Claims
