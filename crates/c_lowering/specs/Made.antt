pub mod Lowered
pub mod LoweredUnit
pub mod Examples
