pub mod Shapes
pub mod ReorderLoops
pub mod Fuse
pub mod Fission
