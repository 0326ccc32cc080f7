pub mod Simplified
pub mod SameControls
pub mod SimplifiedBlocks
