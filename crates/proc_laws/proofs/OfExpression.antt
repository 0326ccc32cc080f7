pub mod Exchange
pub mod Commute
pub mod Rename
pub mod Passes
pub mod Standing
pub mod Carried
pub mod Apart
pub mod Examples
