pub mod FactRules
pub mod Rules
pub mod Dimensions
pub mod PlainRoots
pub mod StrideValues
pub mod PlaceValues
pub mod WellFormed
