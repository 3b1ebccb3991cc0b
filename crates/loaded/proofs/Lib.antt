-- The laws of `loaded`.
pub mod SavedLaws
