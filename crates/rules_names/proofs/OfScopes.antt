pub mod Fresh
pub mod Fields
pub mod Steps
pub mod Down
pub mod Procedures
