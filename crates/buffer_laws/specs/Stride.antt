pub mod Strides
pub mod Staged
pub mod OnView
pub mod Passed
pub mod StagePassed
pub mod Refusals
