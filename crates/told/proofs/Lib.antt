-- The laws of `told`.
pub mod AnswerLaws
pub mod RequestLaws
