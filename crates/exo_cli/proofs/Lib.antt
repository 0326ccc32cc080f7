pub mod Endings
pub mod Unique
pub mod Complete
pub mod Headline
pub mod Replying
pub mod OfOutside
