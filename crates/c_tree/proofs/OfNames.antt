pub mod Reserved
pub mod Search
pub mod Tails
