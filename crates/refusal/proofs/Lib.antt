-- The laws of `refusal`.
pub mod CallLaws
