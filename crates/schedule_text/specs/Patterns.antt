pub mod Errors
pub mod Numbers
pub mod Names
pub mod Grammar
pub mod Told
pub mod Texts
pub mod Instance
