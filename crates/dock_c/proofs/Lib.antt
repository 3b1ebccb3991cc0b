-- The laws of the exported calls.
pub mod SaysLaws
pub mod StaysLaws
