pub mod Simplified
pub mod SameControls
pub mod Along
pub mod SimplifiedBlocks
pub mod Instances
