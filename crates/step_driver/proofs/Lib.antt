pub mod Placed
pub mod Means
pub mod Refused
pub mod Statements
pub mod OfNeeds
