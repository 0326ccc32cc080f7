mod Words
mod Moving
mod Arguments
mod Lines
mod Schedules
mod Eased
mod Examples
pub mod OfPatterns
