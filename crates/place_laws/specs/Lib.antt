pub mod Scope
pub mod Order
