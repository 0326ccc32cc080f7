pub mod Together
pub mod Shared
pub mod Told
pub mod Unified
