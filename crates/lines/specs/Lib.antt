-- The reader of a line between two of its bytes.
pub mod Reader
