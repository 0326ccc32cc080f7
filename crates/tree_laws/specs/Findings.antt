pub mod Exact
pub mod Versions
