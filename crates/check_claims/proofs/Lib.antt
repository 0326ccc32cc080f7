pub mod Pairs
pub mod PairClaims
pub mod Passing
pub mod Walks
pub mod ShortUnits
mod Placing
