pub mod OneNeed
pub mod OneConflict
pub mod Ruled
pub mod Walked
pub mod Standing
pub mod Rests
pub mod Loops
