-- The exported calls.
pub mod Exported
