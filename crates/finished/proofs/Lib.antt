-- The laws of `finished`.
pub mod FinishedLaws
