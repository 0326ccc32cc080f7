pub mod Firsts
pub mod Lookups
pub mod Remembered
pub mod Weights
mod Examples
