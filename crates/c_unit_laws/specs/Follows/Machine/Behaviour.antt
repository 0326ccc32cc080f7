pub mod Helpers
pub mod Runs
pub mod OtherFields
