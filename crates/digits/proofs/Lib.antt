-- The laws of `digits`.
pub mod NumberLaws
