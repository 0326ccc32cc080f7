pub mod Phrases
pub mod Sequences
pub mod Commas
pub mod Exits
pub mod Texts
pub mod Joints
pub mod Eased
