pub mod Versions
pub mod Places
pub mod Lines
pub mod Laws
pub mod Behind
