pub mod Fits
pub mod PlainTail
pub mod PlainPair
pub mod PlainTurns
pub mod Nest
