pub mod Beside
pub mod Binding
pub mod PlainBound
pub mod PlainCall
pub mod PlainWriting
