-- The laws of `sweeping`.
pub mod WalkedLaws
