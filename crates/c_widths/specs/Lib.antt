pub mod Magnitude
pub mod Widths
pub mod Bounds
pub mod Laws
pub mod Raises
pub mod Given
pub mod Few
pub mod Examples
