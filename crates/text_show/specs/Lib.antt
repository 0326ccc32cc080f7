pub mod Layout
pub mod Names
pub mod Words
pub mod ControlText
pub mod DatumText
pub mod StatementText
pub mod ProcedureText
pub mod Seen
