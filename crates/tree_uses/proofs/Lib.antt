pub mod Fits
pub mod IsPut
pub mod Window
pub mod Wide
pub mod Nodes
pub mod Listed
mod Examples
pub mod OfMentions
pub mod OfSimple
