pub mod OfVersions
pub mod OfOperators
pub mod OfNames
pub mod OfOwed
