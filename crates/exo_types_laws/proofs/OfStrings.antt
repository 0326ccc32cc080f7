pub mod SameNames
pub mod Standing
pub mod Instance
