pub mod Optional
pub mod Parts
pub mod Lists
mod Parameters
mod Made
mod Windows
pub mod Coordinates
mod Arguments
mod Statements
pub mod Neighbours
mod Items
pub mod Units
pub mod Errors
pub mod Eased
mod Widths
pub mod Strings
mod Instance
