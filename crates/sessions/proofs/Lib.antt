-- A request's line against the whole submission, and what a line writes.
pub mod FinishLaws
pub mod WholeLaws
pub mod LineLaws
