pub mod Written
pub mod Nested
pub mod Accesses
pub mod Converted
pub mod Staged
pub mod Drafts
mod Examples
pub mod OfNeeds
pub mod OfTested
