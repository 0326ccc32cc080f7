pub mod Requests
pub mod Keys
pub mod Readings
pub mod PlainRequest
pub mod Operators
pub mod Answers
pub mod Instance
