-- What the contracts of `finished` cite.
pub mod Finished
