-- The laws that all crates cite.
pub mod Again
pub mod Chosen
pub mod Compare
pub mod Decide
pub mod Lent
pub mod Pasted
pub mod ReadBack
pub mod Unique
