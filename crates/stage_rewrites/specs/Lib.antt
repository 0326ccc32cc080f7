pub mod OnWindow
pub mod Places
pub mod Nests
pub mod Needs
pub mod Tested
