pub mod Names
pub mod Left
pub mod Asked
pub mod Staging
pub mod Carrying
pub mod Examples
