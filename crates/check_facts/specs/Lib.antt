pub mod Contexts
pub mod Values
pub mod Tables
pub mod RootSets
pub mod UnitCodes
pub mod Walks
pub mod Trails
pub mod Laws
