pub mod Uses
pub mod Outcomes
pub mod Given
pub mod Moved
pub mod Putting
pub mod Mentions
pub mod Simple
