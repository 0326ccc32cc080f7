pub mod OfMade
pub mod OfFindings
