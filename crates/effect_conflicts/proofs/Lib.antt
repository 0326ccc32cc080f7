pub mod Examples
pub mod RenamedTerms
pub mod RenamedForms
pub mod RenamedSystems
pub mod RenamedTwice
pub mod PastForms
pub mod CopyForms
pub mod MeetingNumbers
pub mod Listings
pub mod Places
pub mod Answered
mod Bounds
mod Turns
