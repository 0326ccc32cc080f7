pub mod Commuted
pub mod Cleared
pub mod Left
