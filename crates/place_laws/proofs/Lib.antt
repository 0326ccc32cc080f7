pub mod OfScope
pub mod OfOrder
