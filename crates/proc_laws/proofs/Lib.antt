pub mod OfExpression
pub mod OfStatement
