pub mod File
pub mod Layout
pub mod Calls
pub mod Tiles
pub mod Whole
pub mod Log
