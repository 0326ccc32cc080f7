pub mod FieldSets
pub mod Reads
pub mod Pieces
pub mod Steps
