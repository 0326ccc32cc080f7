pub mod Allocations
pub mod Lifting
pub mod Outside
pub mod Expanding
pub mod Bind
pub mod Stage
pub mod Goes
