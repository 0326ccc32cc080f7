pub mod Numbers
pub mod Given
pub mod Called
pub mod Inlined
pub mod Simplified
pub mod Viewed
