pub mod Systems
pub mod Laws
pub mod FormulaCodes
pub mod PlainCases
pub mod PlainMade
pub mod Outcomes
pub mod Limits
pub mod Amounts
