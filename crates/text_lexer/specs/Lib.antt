pub mod Bytes
pub mod Quoted
pub mod Lexeme
pub mod Layout
pub mod Widths
