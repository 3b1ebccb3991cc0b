-- The laws of `stages`.
pub mod StageLaws
