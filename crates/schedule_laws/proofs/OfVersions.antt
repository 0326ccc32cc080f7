pub mod Open
pub mod Quiet
pub mod Growing
pub mod Chain
pub mod Derived
pub mod Runs
pub mod Behind
