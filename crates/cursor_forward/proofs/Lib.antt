mod Lasts
mod Parts
mod Steps
mod Lands
mod Holes
mod Ranges
mod Following
mod Searching
pub mod Searchable
mod SameKinds
pub mod Forwarding
mod Examples
