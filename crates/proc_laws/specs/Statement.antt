pub mod Fields
pub mod DeadCode
pub mod RemoveLoop
pub mod LiftScope
pub mod ReorderStatements
