pub mod Integers
pub mod TermLists
pub mod TermWidths
pub mod Values
pub mod SameAtoms
pub mod Distinct
pub mod RowConstants
mod RowSums
pub mod NormalForm
pub mod Strides
pub mod LaterExtents
pub mod FormulaValues
pub mod Tables
pub mod KnownRows
pub mod RowLists
pub mod Putting
pub mod FormedParts
