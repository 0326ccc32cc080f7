pub mod Blocks
pub mod Appends
pub mod Maps
pub mod Listed
pub mod Joined
pub mod OfNames
