pub mod Numbered
pub mod PlainIds
pub mod Sought
pub mod PlainSought
pub mod PlainCall
pub mod PlainView
pub mod Drafts
