-- What the contracts of `stages` cite.
pub mod Parts
pub mod Values
