pub mod PlainNest
pub mod PlainTwo
pub mod PlainParting
