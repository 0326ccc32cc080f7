pub mod PlainTarget
pub mod Tables
pub mod PlainWriting
pub mod PlainExit
pub mod Spots
pub mod Stages
pub mod Outcomes
pub mod Needs
