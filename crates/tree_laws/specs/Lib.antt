pub mod Made
pub mod Findings
