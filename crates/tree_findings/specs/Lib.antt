pub mod Classes
pub mod Sizes
pub mod Findings
pub mod Obeys
pub mod Seen
pub mod Walked
pub mod Placed
