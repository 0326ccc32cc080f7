pub mod Operands
pub mod Changing
