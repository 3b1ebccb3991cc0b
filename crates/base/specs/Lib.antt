-- The definitions that all crates cite.
pub mod Again
pub mod Fields
pub mod First
pub mod Part
