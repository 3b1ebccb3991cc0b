-- The laws of `admission`.
pub mod StartLaws
