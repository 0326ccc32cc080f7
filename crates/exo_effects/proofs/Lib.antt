pub mod Examples
pub mod Names
pub mod Spots
pub mod Walks
pub mod Arguments
pub mod LowProcedures
pub mod LowUses
pub mod Points
mod Given
