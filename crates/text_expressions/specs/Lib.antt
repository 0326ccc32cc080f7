pub use Rattle.text_expressions.specs.Front.Fixed
pub use Rattle.text_expressions.specs.Front.Values
pub use Rattle.text_expressions.specs.Front.Starts
pub mod Expression
pub mod Rooms
pub mod Chain
pub mod Views
pub mod Front
