pub mod Seen
pub mod Table
pub mod PlainTable
