-- The definitions that only the contracts of `checks` cite.
pub mod Shown
pub mod Step
