pub mod EndsStand
pub mod Goes
pub mod GoesDrafts
pub mod Fits
pub mod Asked
pub mod Passing
pub mod Sizes
