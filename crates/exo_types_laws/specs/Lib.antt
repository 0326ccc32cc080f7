pub mod Small
pub mod Laws
pub mod Strings
pub mod Instances
pub mod Shown
