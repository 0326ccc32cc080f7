pub mod Homes
pub mod Faults
pub mod Uses
pub mod Scope
pub mod Recent
