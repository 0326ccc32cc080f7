pub mod Made
pub mod OnKinds
pub mod Scoped
