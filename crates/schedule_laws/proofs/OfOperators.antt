pub mod Each
pub mod Lawful
pub mod Examples
pub mod OrderExamples
pub mod ScopeExamples
pub mod BufferExamples
pub mod StageExamples
pub mod CallExamples
