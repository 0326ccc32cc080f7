pub mod Covers
pub mod CoversAtPlaces
pub mod Clear
pub mod Apart
pub mod Fits
pub mod Pairs
pub mod Words
pub mod Bounds
