pub mod Numbers
pub mod Heads
pub mod Parts
pub mod Pixels
pub mod Places
pub mod Rasters
pub mod Openings
