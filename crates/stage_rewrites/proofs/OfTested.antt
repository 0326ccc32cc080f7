pub mod Missed
pub mod Places
pub mod Shaped
