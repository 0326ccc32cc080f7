pub mod PlainNeed
pub mod Outcomes
pub mod Owing
pub mod Conflicts
pub mod Sites
