pub mod Renamed
pub mod Names
pub mod Stores
