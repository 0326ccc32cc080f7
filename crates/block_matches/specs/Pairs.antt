pub mod Held
pub mod PlainBuffer
pub mod PlainPair
pub mod Walks
