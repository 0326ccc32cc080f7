pub mod Strings
pub mod Numbers
pub mod Lines
pub mod FirstLine
pub mod Cuts
pub mod Ascii
mod Begun
mod Choices
mod OfByte
mod Pushed
mod Widths
mod Words
