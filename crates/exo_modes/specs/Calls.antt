pub mod Closed
pub mod Tabled
pub mod Marked
pub mod Passed
