pub mod PlainOperation
pub mod Exchanging
pub mod Passing
