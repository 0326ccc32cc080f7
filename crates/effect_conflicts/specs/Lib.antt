pub mod Copies
pub mod CopyLaws
pub mod PlainCopies
pub mod Outcomes
pub mod Standings
