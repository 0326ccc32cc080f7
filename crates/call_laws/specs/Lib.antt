pub mod Places
pub mod Nameless
pub mod Spots
pub mod Simplify
pub mod Replace
pub mod Calls
pub mod Fields
