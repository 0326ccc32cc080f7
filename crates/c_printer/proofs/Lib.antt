pub mod Lists
pub mod Parameters
pub mod Marking
pub mod Agreed
pub mod Listing
pub mod Finding
pub mod Ranks
