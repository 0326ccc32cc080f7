pub mod Joined
pub mod Scopes
pub mod Counts
pub mod Callees
pub mod Calls
pub mod Walks
pub mod Places
