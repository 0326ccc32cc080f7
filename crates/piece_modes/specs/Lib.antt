pub mod PlainMode
pub mod Touching
pub mod Way
pub mod PlainWay
pub mod Own
pub mod Strides
