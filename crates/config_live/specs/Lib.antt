pub mod Listed
pub mod Ways
pub mod Tables
pub mod Heads
pub mod Walks
pub mod Places
pub mod Origins
