pub mod Ops
pub mod Scaling
pub mod Kinds
pub mod Sampling
pub mod Sums
pub mod ColourKindLemmas
pub mod Widths
