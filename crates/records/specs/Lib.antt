-- The definitions that the contracts of `records` cite.
pub mod Kinds
pub mod States
pub mod Records
