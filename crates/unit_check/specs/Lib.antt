pub mod Faults
pub mod Checked
pub mod Outcomes
pub mod Preorder
pub mod Laws
pub mod Cached
pub mod Parts
