-- The laws of the layouts and of the cycle rule, and readings from the bench.
pub mod BlockLaws
pub mod CycleLaws
pub mod LayoutLaws
mod Readings
