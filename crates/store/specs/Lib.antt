pub mod Cells
pub mod Reads
pub mod Stores
