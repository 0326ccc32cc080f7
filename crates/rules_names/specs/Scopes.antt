pub mod PlaceScope
pub mod NewNames
pub mod Resolved
