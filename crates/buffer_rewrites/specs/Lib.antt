pub mod PlainAlloc
pub mod PlainInner
pub mod PlainForm
pub mod Taking
pub mod PlainTaken
pub mod PlainAllocated
