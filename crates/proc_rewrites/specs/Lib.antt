pub mod PlainFork
pub mod PlainNeighbours
pub mod PlainLifting
pub mod Fits
pub mod Expressions
