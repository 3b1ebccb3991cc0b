-- The laws of the burst counts, and readings from the bench.
pub mod BurstLaws
mod Readings
