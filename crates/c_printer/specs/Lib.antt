pub mod Found
pub mod PlainPrinted
pub mod Refusals
