pub mod CTree
pub mod Code
pub mod Sizes
pub mod Plain
pub mod Falls
pub mod CText
pub mod Names
