pub mod Exact
pub mod Stand
pub mod Rules
pub mod Version
pub mod Points
pub mod Examples
