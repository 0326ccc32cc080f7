pub mod Cases
pub mod Points
pub mod Products
pub mod Sparse
pub mod Numbers
pub mod Gathered
pub mod Counts
pub mod CaseLists
pub mod FormulaLists
pub mod Answering
pub mod RowLists
mod Terms
mod Within
