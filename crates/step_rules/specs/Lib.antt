pub mod Rule
pub mod Shapes
pub mod Owing
pub mod Answer
pub mod Lawful
pub mod Replacement
pub mod Laws
