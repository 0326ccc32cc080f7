pub mod LowNames
pub mod LowKnown
pub mod LowRoots
pub mod LowContexts
pub mod Ranks
pub mod SmallUses
pub mod LowAccesses
pub mod Examples
