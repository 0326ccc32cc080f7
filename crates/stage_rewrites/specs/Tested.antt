pub mod PlainStaging
pub mod Touched
pub mod Fitting
