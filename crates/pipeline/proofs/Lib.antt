pub mod Firsts
pub mod Pairs
