pub mod Sets
pub mod Tables
pub mod Pieces
pub mod OfSteps
