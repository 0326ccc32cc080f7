pub mod Examples
pub mod OfBehaviour
