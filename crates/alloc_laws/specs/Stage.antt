pub mod Written
pub mod Staging
