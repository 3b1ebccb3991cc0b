-- The readings of `phrases`.
pub mod Readings
