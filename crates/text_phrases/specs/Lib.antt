pub mod Limits
pub mod Phrase
pub mod Sequence
pub mod Commas
pub mod Text
pub mod Answers
