-- What the contracts of `trbs` cite.
pub mod Trbs
