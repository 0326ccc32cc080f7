pub mod Fixed
pub mod Values
pub mod Starts
