pub mod Shown
pub mod Meeting
pub mod Staging
pub mod Rounds
pub mod Solving
pub mod OpenRows
pub mod OpenEquations
pub mod OfRowSets
