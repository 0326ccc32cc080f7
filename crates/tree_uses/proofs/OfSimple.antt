pub mod Operands
pub mod Signs
pub mod Changed
pub mod Examples
