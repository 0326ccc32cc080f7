pub mod Machine
pub mod CRun
pub mod Examples
pub mod Behaviour
