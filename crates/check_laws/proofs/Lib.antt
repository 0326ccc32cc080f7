pub mod OfFacts
pub mod OfClaims
