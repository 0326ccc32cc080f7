pub mod Bound
pub mod Points
pub mod Walking
