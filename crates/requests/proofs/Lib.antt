-- The laws of `requests`.
pub mod LengthLaws
