pub mod Made
pub mod Neighbouring
pub mod Unwritten
pub mod OwnSeen
pub mod Ends
pub mod Lifted
pub mod OfExpressions
