pub mod Calls
pub mod Ways
pub mod Found
pub mod Rest
pub mod Outside
pub mod OfStrides
