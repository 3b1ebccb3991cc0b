-- The laws of a whole submission.
pub mod SentLaws
pub mod StrideLaws
