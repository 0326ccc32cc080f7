pub mod PlainLoop
pub mod Kinds
