pub mod Alone
pub mod Costs
pub mod Examples
mod Inside
mod Joined
pub mod Pieces
pub mod OfMade
mod Turns
