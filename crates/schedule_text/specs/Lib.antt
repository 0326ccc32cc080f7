pub mod Tree
pub mod Words
pub mod Grammar
pub mod Views
pub mod Texts
pub mod Patterns
