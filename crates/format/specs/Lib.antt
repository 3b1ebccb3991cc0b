-- The format of a line.
pub mod Format
