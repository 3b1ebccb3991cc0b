-- The definitions that the contracts of `mask` cite, and those in which its laws say what they mean.
pub mod Bit
pub mod Clear
pub mod Compute
pub mod Occupancy
